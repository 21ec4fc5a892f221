-- What any command answers, from what it answers of the file that it is handed.
use Rattle.std.specs.Prelude.{◌≡◌, ◌<◌, ℕ, Bool, true, false, List, [], ◌∷◌, ◌++◌, length, Some, Err, MatchOption, ⊤}
use Rattle.std.proofs.Common.{refl, sym, ◌∙◌, subst, inl, inr}
use Rattle.std.proofs.lemmas.Bool.{lt-ltb}
use Rattle.dr_meaning.specs.SchemaText.{SchemaFault as SchemaRefusal, parse_schema}
use Rattle.dr_formats.specs.Loading.{Put}
use Rattle.dr_formats.specs.TableFile.{TableFault as TableRefusal, parse_table, longest_table, table_too_long}
use Rattle.dr_nested.specs.Faults.{schema_fault_view}
use Rattle.dr_nested.specs.declared.fault.SchemaFault.{SchemaFault}
use Rattle.dr_nested.proofs.ParseLemmas.{text_is_too_long}
use Rattle.dr_table.specs.Faults.{fault_view}
use Rattle.dr_table.specs.declared.fault.TableFault.{TableFault}
use Rattle.dr_load.specs.Puts.{HasPut, HasPutSome}
use Rattle.dr_load.specs.Given.{WhereLines}
use Rattle.dr_input.specs.Taken.{WhereTold}
use Rattle.dr_outside.specs.Source.{SourceShown}
use Rattle.dr_outside.specs.Link.{LinkShown}
use Rattle.dr_commands.specs.Refusals.{schema_refused, table_refused}
use Rattle.dr_commands.specs.Meaning.{Look, Meaning, Outcome, done, refused, puts_in}
use Rattle.dr_top.specs.World.{Lent, lent, IsFileOf, ForInput, outcome_on, Opens, OpensBy, RefusesAlways, Accepts, WithEach}
use Rattle.dr_top.specs.Reading.{HasText}
use Rattle.dr_top.specs.Keeping.{IsDoneSo, IsRefusedSo, puts_before_end}
use Rattle.dr_top.specs.Stops.{StopsEarly, StopsReading, StopsAsking, StopsWith, refusal_view, schema_stop, table_stop}
use Rattle.dr_top.specs.Answers.{Gives, Finishes, AsksEach, AsksLink}
use Rattle.dr_top.specs.NamedFile.{RefusesLonger}
use Rattle.dr_top.specs.declared.named_file.Kind.{Kind}
use Rattle.dr_top.specs.declared.refusal.Refusal.{Refusal}
use Rattle.dr_top.specs.declared.stop.Stop.{Stop}
use Rattle.dr_top.proofs.OutcomeLemmas.{told_so, each_told, each_input, told_input}
use Rattle.dr_top.proofs.PutLemmas.{unput, put_none, refused_so, some_of_none, put_nothing, lines_given}

-- ---- what a command refuses before the input

-- a command refuses what its schema refuses
abbrev pub RefusesSchema : Meaning → Type 0
RefusesSchema m = (look : Look) (e : SchemaRefusal) → parse_schema look.file ≡ Err e → m.outcome look ≡ refused (schema_refused e) []

pub schema_early : (m : Meaning) (file : List ℕ) (fault : SchemaFault) → RefusesSchema m → MatchOption (schema_fault_view fault) ⊤ (λ e. parse_schema file ≡ Err e) → StopsEarly (outcome_on m file) (schema_stop fault)
schema_early m file SchemaFault.NoMemory s h = tt
schema_early m file (SchemaFault.Refused p x) s h = λ input. s (record { file = file; input = input }) _ h

pub schema_longer : (m : Meaning) → RefusesSchema m → RefusesLonger m Kind.Schema
schema_longer m s file long input = s (record { file = file; input = input }) _ (text_is_too_long file long)

-- a command refuses what its table refuses
abbrev pub RefusesTable : Meaning → Type 0
RefusesTable m = (look : Look) (e : TableRefusal) → parse_table look.file ≡ Err e → m.outcome look ≡ refused (table_refused e) []

pub table_early : (m : Meaning) (file : List ℕ) (fault : TableFault) → RefusesTable m → MatchOption (fault_view fault) ⊤ (λ e. parse_table file ≡ Err e) → StopsEarly (outcome_on m file) (table_stop fault)
table_early m file TableFault.NoMemory s h = tt
table_early m file (TableFault.Refused x) s h = λ input. s (record { file = file; input = input }) _ h

table_is_too_long : (text : List ℕ) → longest_table < length text → parse_table text ≡ Err table_too_long
unfolding parse_table
table_is_too_long text h = rw (lt-ltb longest_table (length text) h) refl

pub table_longer : (m : Meaning) → RefusesTable m → RefusesLonger m Kind.Table
table_longer m s file long input = s (record { file = file; input = input }) table_too_long (table_is_too_long file long)

-- so it is stopped before it asks the input
pub early_reading : (on : List ℕ → Outcome) (i : SourceShown) (stop : Stop) → StopsEarly on stop → StopsReading on i i stop
early_reading on i Stop.Usage h = h
early_reading on i Stop.NoMemory h = refl
early_reading on i Stop.Source h = absurd h
early_reading on i Stop.Keeper h = h
early_reading on i (Stop.Refused r) h = (refl, each_told i.left (λ lines. on lines ≡ refused (refusal_view r) []) h, λ early. (refl, h))
early_reading on i (Stop.Left left) h = h
early_reading on i (Stop.Most text left) h = h
early_reading on i (Stop.LeftFile cause) h = h

-- or a link
pub early_asking : (on : List ℕ → Outcome) (ls : List LinkShown) (stop : Stop) → StopsEarly on stop → StopsAsking (on []) ls ls stop
early_asking on ls Stop.Usage h = h
early_asking on ls Stop.NoMemory h = tt
early_asking on ls Stop.Source h = h
early_asking on ls Stop.Keeper h = h
early_asking on ls (Stop.Refused r) h = (refl, h [])
early_asking on ls (Stop.Left left) h = absurd h
early_asking on ls (Stop.Most text left) h = absurd h
early_asking on ls (Stop.LeftFile cause) h = absurd h

-- ---- what is said of any command

module _ (m : Meaning) (w : Lent) (file : List ℕ) (is : IsFileOf m w.keeper file) where
  opens_input : m.reads_input ≡ true → Opens (outcome_on m file) → OpensBy m.reads_input (outcome_on m file)
  opens_input r h = subst (λ (b : Bool). OpensBy b (outcome_on m file)) (sym r) h

  opens_none : m.reads_input ≡ false → OpensBy m.reads_input (outcome_on m file)
  opens_none r = subst (λ (b : Bool). OpensBy b (outcome_on m file)) (sym r) tt

  none_put : HasPut [] w.keeper w.keeper
  none_put = put_none w.keeper w.keeper (unput w.keeper)

  refused_early : (r : Refusal) → RefusesAlways (outcome_on m file) (refusal_view r) → StopsWith m w w (Stop.Refused r)
  refused_early r h = (
    refl,
    refl,
    refl,
    record {
      file = file;
      is_file = is;
      refuses = each_input m.reads_input w.input.left (λ input. IsRefusedSo (refusal_view r) [] w.keeper w.keeper (outcome_on m file input)) (λ input. refused_so (outcome_on m file input) (refusal_view r) [] w.keeper w.keeper (h input) none_put);
      early = λ early. (h, refl, none_put);
    },
  )

  -- one that is stopped before it asks for anything
  pub early_stops : (stop : Stop) → StopsEarly (outcome_on m file) stop → StopsWith m w w stop
  early_stops Stop.Usage h = h
  early_stops Stop.NoMemory h = (refl, refl, inl (put_nothing m w w (unput w.keeper)))
  early_stops Stop.Source h = absurd h
  early_stops Stop.Keeper h = absurd h
  early_stops (Stop.Refused r) h = refused_early r h
  early_stops (Stop.Left left) h = absurd h
  early_stops (Stop.Most text left) h = absurd h
  early_stops (Stop.LeftFile cause) h = absurd h

  -- one whose outcome no input changes
  pub alone_finishes : (text : List ℕ) → m.reads_input ≡ false → ((input : List ℕ) → outcome_on m file input ≡ outcome_on m file []) → outcome_on m file [] ≡ done text [] → Finishes m w w text
  alone_finishes text r same h = record {
    file = file;
    is_file = is;
    gives = each_input m.reads_input w.input.left (λ input. Gives w w text (outcome_on m file input)) (λ input. subst (Gives w w text) (sym (same input ∙ h)) (refl, none_put));
    opens = opens_none r;
  }

  -- one that reads the input
  pub putting_finishes : (i1 : SourceShown) (k1 : LinkShown) (text : List ℕ) → m.reads_input ≡ true → Opens (outcome_on m file) → WhereTold w.input.left (λ input. IsDoneSo text w.keeper k1 (outcome_on m file input)) → Finishes m w (lent i1 k1 w.links) text
  putting_finishes i1 k1 text reads o h = record {
    file = file;
    is_file = is;
    gives = told_input m.reads_input w.input.left (λ input. Gives w (lent i1 k1 w.links) text (outcome_on m file input)) reads
        (told_so w.input.left (λ input. IsDoneSo text w.keeper k1 (outcome_on m file input)) (λ input. Gives w (lent i1 k1 w.links) text (outcome_on m file input))
        (λ input g. subst (Gives w (lent i1 k1 w.links) text) (sym g.1) (refl, g.2)) h);
    opens = opens_input reads o;
  }

  -- and puts nothing
  module _ (i1 : SourceShown) (reads : m.reads_input ≡ true) (none : (look : Look) → puts_in (m.outcome look) ≡ []) where
    pub reading_finishes : (text : List ℕ) → Opens (outcome_on m file) → WhereTold w.input.left (λ input. outcome_on m file input ≡ done text []) → Finishes m w (lent i1 w.keeper w.links) text
    reading_finishes text o h =
        putting_finishes i1 w.keeper text reads o
        (told_so w.input.left (λ input. outcome_on m file input ≡ done text []) (λ input. IsDoneSo text w.keeper w.keeper (outcome_on m file input)) (λ input e. ([], e, none_put)) h)

    given : Accepts (outcome_on m file) w.input i1 → WhereLines w.input.left i1.left (λ lines. HasPut (puts_in (outcome_on m file (lines ++ 10 ∷ []))) w.keeper w.keeper)
    given h =
        lines_given w.input.left i1.left _ (λ lines. HasPut (puts_in (outcome_on m file (lines ++ 10 ∷ []))) w.keeper w.keeper)
        (λ lines. subst (λ (ps : List Put). HasPut ps w.keeper w.keeper) (sym (none (record { file = file; input = lines ++ 10 ∷ [] }))) none_put) h

    pub reading_stops : (stop : Stop) → m.talks ≡ false → StopsReading (outcome_on m file) w.input i1 stop → StopsWith m w (lent i1 w.keeper w.links) stop
    reading_stops Stop.Usage n h = h
    reading_stops Stop.NoMemory n h = (refl, h, inl (put_nothing m w (lent i1 w.keeper w.links) (unput w.keeper)))
    reading_stops Stop.Source n h = (
      h.0,
      refl,
      refl,
      record {
        file = file;
        is_file = is;
        opens = h.1;
        accepts = h.2;
        puts = each_input m.reads_input w.input.left (λ input. HasPutSome (puts_before_end (outcome_on m file input)) w.keeper w.keeper)
            (λ input. some_of_none (puts_before_end (outcome_on m file input)) w.keeper w.keeper (unput w.keeper));
        given = given h.2;
      },
      n,
    )
    reading_stops Stop.Keeper n h = absurd h
    reading_stops (Stop.Refused r) n h = (
      refl,
      h.0,
      refl,
      record {
        file = file;
        is_file = is;
        refuses = told_input m.reads_input w.input.left (λ input. IsRefusedSo (refusal_view r) [] w.keeper w.keeper (outcome_on m file input)) reads
            (told_so w.input.left (λ input. outcome_on m file input ≡ refused (refusal_view r) []) (λ input. IsRefusedSo (refusal_view r) [] w.keeper w.keeper (outcome_on m file input))
            (λ input e. refused_so (outcome_on m file input) (refusal_view r) [] w.keeper w.keeper e none_put) h.1);
        early = λ early. let x = h.2 early in (x.1, x.0, none_put);
      },
    )
    reading_stops (Stop.Left left) n h = absurd h
    reading_stops (Stop.Most text left) n h = absurd h
    reading_stops (Stop.LeftFile cause) n h = absurd h

  -- one that asks links, and puts nothing; no input changes its outcome
  module _ (ls : List LinkShown) (same : (input : List ℕ) → outcome_on m file input ≡ outcome_on m file []) where
    by : (P : Outcome → Type 0) → P (outcome_on m file []) → ForInput m.reads_input w.input.left (λ input. P (outcome_on m file input))
    by P h = each_input m.reads_input w.input.left (λ input. P (outcome_on m file input)) (λ input. subst P (sym (same input)) h)

    pub asking_finishes : (text : List ℕ) → m.reads_input ≡ false → ((look : Look) → puts_in (m.outcome look) ≡ []) → HasText (outcome_on m file []) w.links ls text → Finishes m w (lent w.input w.keeper ls) text
    asking_finishes text r none h = record {
      file = file;
      is_file = is;
      gives = by (Gives w (lent w.input w.keeper ls) text) (h, subst (λ (ps : List Put). HasPut ps w.keeper w.keeper) (sym (none (record { file = file; input = [] }))) none_put);
      opens = opens_none r;
    }

    pub asking_reads : WithEach w.links ls (AsksLink (outcome_on m file [])) → AsksEach (Some m) w (lent w.input w.keeper ls)
    asking_reads h = inr (file, is, h)

    pub asking_stops : (stop : Stop) → 0 < m.links → StopsAsking (outcome_on m file []) w.links ls stop → StopsWith m w (lent w.input w.keeper ls) stop
    asking_stops Stop.Usage some h = h
    asking_stops Stop.NoMemory some h = (refl, refl, inl (put_nothing m w (lent w.input w.keeper ls) (unput w.keeper)))
    asking_stops Stop.Source some h = absurd h
    asking_stops Stop.Keeper some h = absurd h
    asking_stops (Stop.Refused r) some h = (
      refl,
      refl,
      h.0,
      record {
        file = file;
        is_file = is;
        refuses = by (IsRefusedSo (refusal_view r) [] w.keeper w.keeper) (refused_so (outcome_on m file []) (refusal_view r) [] w.keeper w.keeper h.1 none_put);
        early = λ early. (λ input. same input ∙ h.1, refl, none_put);
      },
    )
    asking_stops (Stop.Left left) some h = (refl, some, refl, unput w.keeper, (file, is, h))
    asking_stops (Stop.Most text left) some h = (refl, some, refl, unput w.keeper, (file, is, h))
    asking_stops (Stop.LeftFile cause) some h = (refl, some, refl, unput w.keeper, (file, is, h))
