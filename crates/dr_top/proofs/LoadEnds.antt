-- The answer of `load`, from its steps.
use Rattle.std.specs.Prelude.{◌≡◌, ◌≢◌, ◌<◌, ℕ, Bool, true, false, List, [], ◌∷◌, ◌++◌, length, Option, Some, None, MatchOption, Ok, ⊤, ◌⊎◌, IsTrue}
use Rattle.std.proofs.Common.{refl, sym, ap, ap₂, ◌∙◌, subst, suc, inl, inr, append_assoc, append-nil, arith}
use Rattle.dr_meaning.specs.Schema.{Schema}
use Rattle.dr_meaning.specs.SchemaText.{parse_schema}
use Rattle.dr_meaning.specs.Record.{Node}
use Rattle.dr_meaning.specs.Lines as line
use Rattle.dr_formats.specs.Loading.{Plan, Put, Loaded, words_refusal, puts_from, tablet_puts, puts_of, put_at, table_of, load_taken, most_loaded, load}
use Rattle.dr_formats.specs.Page.{PageForm}
use Rattle.dr_formats.specs.Reports.{loaded_text}
use Rattle.dr_formats.specs.TableFile.{table_text}
use Rattle.dr_formats.specs.Tablets.{tablets}
use Rattle.dr_outside.specs.Faults.{raised}
use Rattle.dr_outside.specs.Source.{SourceShown}
use Rattle.dr_outside.specs.Link.{LinkShown}
use Rattle.dr_load.specs.Faults.{refusal_of}
use Rattle.dr_input.specs.Whole.{whole_lines}
use Rattle.dr_input.specs.Taken.{AcceptsRead, WhereTold}
use Rattle.dr_load.specs.Puts.{HasPut, HasPutSome, BreaksOff}
use Rattle.dr_load.specs.Loads.{LeavesPuts, HasPutTablets, tablets_put, tablet_part, taken_of}
use Rattle.dr_load.specs.Given.{WhereLines, HasPutFull}
use Rattle.dr_load.specs.declared.fault.LoadFault.{LoadFault}
use Rattle.dr_load.proofs.GivenLemmas.{puts_refused}
use Rattle.dr_load.specs.Words.{words_problem_view}
use Rattle.dr_load.specs.declared.words.WordsProblem.{WordsProblem}
use Rattle.dr_commands.specs.Refusals.{Refusal as Refused, line_refused}
use Rattle.dr_commands.specs.Meaning.{done, puts_in, first_refusal, IsEarly}
use Rattle.dr_commands.specs.Load.{LoadWords, load_plan, loaded_outcome, load_checked, load_schema, load_meaning}
use Rattle.dr_top.specs.World.{lent, IsFileOf, outcome_on, Opens, Accepts}
use Rattle.dr_top.specs.Keeping.{IsUnput, IsDoneSo, IsRefusedSo, RefusesSo, PutsSome, PutsBreak, all_but_last, puts_before_end}
use Rattle.dr_top.specs.Stops.{StopsEarly, StopsWith, words_problem_stop, load_stop}
use Rattle.dr_top.specs.declared.stop.Stop.{Stop}
use Rattle.dr_top.proofs.OutcomeLemmas.{told_so, given_so}
use Rattle.dr_top.proofs.PutLemmas.{refused_so}
use Rattle.dr_top.proofs.CommandLemmas.{RefusesSchema}

pub load_refuses_schema : (w : LoadWords) → RefusesSchema (load_meaning w)
load_refuses_schema w look e h = ap (load_schema w look.input) h

-- ---- the directories and the copies

pub words_early : (w : LoadWords) (file : List ℕ) (ds : List (List ℕ)) (s : Schema) (problem : WordsProblem) → ds ≡ w.directories → parse_schema file ≡ Ok s
    → words_refusal ds w.copies ≡ Some (words_problem_view problem) → StopsEarly (outcome_on (load_meaning w) file) (words_problem_stop problem)
words_early w file ds s problem d f h = λ input.
    ap (load_schema w input) f ∙ ap (load_checked w input s) (ap (λ (x : List (List ℕ)). words_refusal x w.copies) (sym d) ∙ h)

-- ---- what is put

-- the tablets come before the table file
tablets_first : (p : Plan) (R : List Node) (r : Option line.Refusal) → (rest : List Put) × (puts_of p R r ≡ puts_from p 0 (tablets_put p R r) ++ rest)
tablets_first p R None = (_, refl)
tablets_first p R (Some e) = ([], sym (append-nil (puts_of p R (Some e))))

part_first : (p : Plan) (input : List ℕ) → (rest : List Put) × ((load p input).puts ≡ tablet_part p input ++ rest)
unfolding load
part_first p input = tablets_first p (taken_of p input).records (taken_of p input).refusal

split_puts : (p : Plan) (n : ℕ) (ts us : List (List Node)) → (rest : List Put) × (puts_from p n (ts ++ us) ≡ puts_from p n ts ++ rest)
split_puts p n [] us = (puts_from p n us, refl)
split_puts p n (t ∷ ts) us =
    let r = split_puts p (suc n) ts us in
    (r.0, ap (λ (x : List Put). tablet_puts p n t ++ x) r.1 ∙ sym (append_assoc (tablet_puts p n t) (puts_from p (suc n) ts) r.0))

more_to_put : (ps qs rest : List Put) (k k1 : LinkShown) → ps ≡ qs ++ rest → HasPutSome qs k k1 → HasPutSome ps k k1
more_to_put ps qs rest k k1 e h = (h.0, h.1 ++ rest, e ∙ ap (λ (x : List Put). x ++ rest) h.2 ∙ append_assoc h.0 h.1 rest, h.3)

some_of_part : (p : Plan) (input : List ℕ) (k k1 : LinkShown) → HasPutSome (tablet_part p input) k k1 → HasPutSome (load p input).puts k k1
some_of_part p input k k1 h = let r = part_first p input in more_to_put (load p input).puts (tablet_part p input) r.0 k k1 r.1 h

some_of_tablets : (p : Plan) (input : List ℕ) (k k1 : LinkShown) → HasPutTablets p input k k1 → HasPutSome (tablet_part p input) k k1
some_of_tablets p input k k1 h =
    let r = split_puts p 0 h.0 h.1 in (puts_from p 0 h.0, r.0, ap (puts_from p 0) h.2 ∙ r.1, h.3)

all_put : (ps : List Put) (k k1 : LinkShown) → HasPut ps k k1 → HasPutSome ps k k1
all_put ps k k1 h = (ps, [], sym (append-nil ps), h)

-- ---- what is put before the table file

last_off : (ps : List Put) (q : Put) → all_but_last (ps ++ q ∷ []) ≡ ps
last_off [] q = refl
last_off (p ∷ []) q = refl
last_off (p ∷ r ∷ ps) q = ap (λ (x : List Put). p ∷ x) (last_off (r ∷ ps) q)

taken_before : (p : Plan) (path : List ℕ) (R : List Node) (o : Option line.Refusal) → p.table ≡ Some path
    → puts_before_end (loaded_outcome (load_taken p (record { records = R; refusal = o })) o) ≡ puts_from p 0 (tablets_put p R o)
taken_before p path R None t =
    let ts : List (List Node) = tablets p.rows R in
    ap (λ (x : Option (List ℕ)). all_but_last (puts_from p 0 ts ++ put_at x (table_text (table_of p (length ts))))) t ∙ last_off (puts_from p 0 ts) _
taken_before p path R (Some e) t = refl

before_table : (p : Plan) (path input : List ℕ) → p.table ≡ Some path → puts_before_end (loaded_outcome (load p input) (load p input).refusal) ≡ tablet_part p input
unfolding load
before_table p path input t = taken_before p path (taken_of p input).records (taken_of p input).refusal t

-- ---- the outcome

puts_are : (l : Loaded) (r : Option line.Refusal) → puts_in (loaded_outcome l r) ≡ l.puts
puts_are l None = refl
puts_are l (Some e) = refl

outcome_is : (w : LoadWords) (s : Schema) (p : Plan) (file input : List ℕ) → p ≡ load_plan w s → parse_schema file ≡ Ok s → words_refusal w.directories w.copies ≡ None
    → load_schema w input (parse_schema file) ≡ loaded_outcome (load p input) (load p input).refusal
outcome_is w s p file input q f n =
    ap (load_schema w input) f ∙ (ap (load_checked w input s) n ∙ ap (λ (x : Plan). loaded_outcome (load x input) (load x input).refusal) (sym q))

-- ---- what is said of the input

late : (l : Loaded) (o : Option line.Refusal) (r : Refused) → IsEarly r → first_refusal (loaded_outcome l o) ≡ Some r → ⊥
late l None r early e = cc
late l (Some x) r early e = let is : line_refused x ≡ r = cc in subst (λ (y : Refused). IsEarly y) (sym is) early

none_refused : (l : Loaded) (o : Option line.Refusal) → o ≡ None → first_refusal (loaded_outcome l o) ≡ None
none_refused l None h = refl
none_refused l (Some x) h = cc

load_refusal : (p : Plan) (input : List ℕ) → (load p input).refusal ≡ (line.taken_from p.schema.fields (most_loaded p.rows) 1 (line.lines_of input)).refusal
unfolding load
load_refusal p input = refl

-- ---- what is answered

-- all that the steps before the input give
pub record Begun (w : LoadWords) (s : Schema) (p : Plan) (file : List ℕ) : Type 0 where
  pub is : p ≡ load_plan w s
  pub schema : parse_schema file ≡ Ok s
  pub words : words_refusal w.directories w.copies ≡ None

pub begun : (w : LoadWords) (s : Schema) (file : List ℕ) (ds es : List (List ℕ)) (table : List ℕ) (form : PageForm) → ds ≡ w.directories → es ≡ w.directories → table ≡ w.table → form ≡ w.form → parse_schema file ≡ Ok s
    → words_refusal ds w.copies ≡ None → Begun w s (record { schema = s; directories = es; copies = w.copies; rows = w.rows; table = Some table; form = form }) file
begun w s file ds es table form d e t g f n = record {
  is = ap₂ (λ (x : List (List ℕ)) (y : List ℕ). record { schema = s; directories = x; copies = w.copies; rows = w.rows; table = Some y; form = form }) e t
      ∙ ap (λ (x : PageForm). record { schema = s; directories = w.directories; copies = w.copies; rows = w.rows; table = Some w.table; form = x }) g;
  schema = f;
  words = ap (λ (x : List (List ℕ)). words_refusal x w.copies) (sym d) ∙ n;
}

module _ (w : LoadWords) (s : Schema) (p : Plan) (file : List ℕ) (k k1 : LinkShown) (i i1 : SourceShown) (b : Begun w s p file) (is : IsFileOf (load_meaning w) k file) where
  on : (input : List ℕ) → load_schema w input (parse_schema file) ≡ loaded_outcome (load p input) (load p input).refusal
  on input = outcome_is w s p file input b.is b.schema b.words

  puts_on : (input : List ℕ) → puts_in (load_schema w input (parse_schema file)) ≡ (load p input).puts
  puts_on input = ap puts_in (on input) ∙ puts_are (load p input) (load p input).refusal

  pub load_opens : Opens (outcome_on (load_meaning w) file)
  load_opens = λ input r early e. late (load p input) (load p input).refusal r early (ap first_refusal (sym (on input)) ∙ e)

  some_put : WhereTold i.left (λ input. HasPutSome (load p input).puts k k1) → PutsSome (load_meaning w) (lent i k []) (lent i1 k1 [])
  some_put h =
      inr (record {
        file = file;
        is_file = is;
        puts = told_so i.left (λ input. HasPutSome (load p input).puts k k1) (λ input. HasPutSome (puts_in (load_schema w input (parse_schema file))) k k1)
            (λ input. subst (λ (ps : List Put). HasPutSome ps k k1) (sym (puts_on input))) h;
      })

  break_off : (known : Bool) → WhereTold i.left (λ input. BreaksOff known (load p input).puts k k1) → PutsBreak known (load_meaning w) (lent i k []) (lent i1 k1 [])
  break_off known h = record {
    file = file;
    is_file = is;
    opens = load_opens;
    breaks = told_so i.left (λ input. BreaksOff known (load p input).puts k k1) (λ input. BreaksOff known (puts_in (load_schema w input (parse_schema file))) k k1)
        (λ input. subst (λ (ps : List Put). BreaksOff known ps k k1) (sym (puts_on input))) h;
  }

  ends_before : (input : List ℕ) → puts_before_end (load_schema w input (parse_schema file)) ≡ tablet_part p input
  ends_before input = ap puts_before_end (on input) ∙ before_table p w.table input (ap (λ (x : Plan). x.table) b.is)

  before_end : WhereTold i.left (λ input. HasPutTablets p input k k1) → WhereTold i.left (λ input. HasPutSome (puts_before_end (load_schema w input (parse_schema file))) k k1)
  before_end h =
      told_so i.left (λ input. HasPutTablets p input k k1) (λ input. HasPutSome (puts_before_end (load_schema w input (parse_schema file))) k k1)
      (λ input g. subst (λ (ps : List Put). HasPutSome ps k k1) (sym (ends_before input)) (some_of_tablets p input k k1 g)) h

  pub line_memory : k1.faults ≡ k.faults → i1.faults ≡ i.faults → WhereTold i.left (λ input. HasPut (load p input).puts k k1) → StopsWith (load_meaning w) (lent i k []) (lent i1 k1 []) Stop.NoMemory
  line_memory c d h = (c, d, inl (some_put (told_so i.left _ _ (λ input. all_put (load p input).puts k k1) h)))

  memory : (left : Option (List ℕ)) → i.left ≡ left → WhereTold left (λ input. LeavesPuts p input k k1 LoadFault.NoMemory) → PutsSome (load_meaning w) (lent i k []) (lent i1 k1 []) ⊎ PutsBreak false (load_meaning w) (lent i k []) (lent i1 k1 [])
  memory None e h = inl (some_put (subst (λ (l : Option (List ℕ)). WhereTold l (λ input. HasPutSome (load p input).puts k k1)) (sym e) tt))
  memory (Some input) e (inl h) = inl (some_put (subst (λ (l : Option (List ℕ)). WhereTold l (λ input. HasPutSome (load p input).puts k k1)) (sym e) (some_of_part p input k k1 h)))
  memory (Some input) e (inr h) = inr (break_off false (subst (λ (l : Option (List ℕ)). WhereTold l (λ input. BreaksOff false (load p input).puts k k1)) (sym e) h))

  -- what the source gave is accepted
  accepts : AcceptsRead p.schema.fields (most_loaded p.rows) 0 i.left i1.left → Accepts (outcome_on (load_meaning w) file) i i1
  accepts a =
      given_so i.left i1.left (λ read. (line.taken_from p.schema.fields (most_loaded p.rows) 1 (line.lines_of (whole_lines read))).refusal ≡ None) (λ read. first_refusal (load_schema w (whole_lines read) (parse_schema file)) ≡ None)
      (λ read h. ap first_refusal (on (whole_lines read)) ∙ none_refused (load p (whole_lines read)) (load p (whole_lines read)).refusal (load_refusal p (whole_lines read) ∙ h)) a

  -- the full tablets of the lines that were given
  given : (left now : Option (List ℕ)) → HasPutFull p left now k k1 → WhereLines left now (λ lines. HasPut (puts_in (load_schema w (lines ++ 10 ∷ []) (parse_schema file))) k k1)
  given None now h = tt
  given (Some all) None h = h
  given (Some all) (Some rest) h = (
    h.0,
    h.1,
    h.2,
    h.3,
    subst (λ (ps : List Put). HasPut ps k k1) (sym (puts_on (h.1 ++ 10 ∷ []) ∙ puts_refused p h.1 h.0 rest h.4.0 h.3 h.4.1)) h.4.2,
  )

  refused_on : (left : Option (List ℕ)) (e : line.Refusal) → WhereTold left (λ input. (load p input).refusal ≡ Some e) → WhereTold left (λ input. HasPut (load p input).puts k k1)
      → WhereTold left (λ input. IsRefusedSo (line_refused e) [] k k1 (load_schema w input (parse_schema file)))
  refused_on None e h put = tt
  refused_on (Some input) e h put = refused_so (load_schema w input (parse_schema file)) (line_refused e) (load p input).puts k k1 (on input ∙ ap (loaded_outcome (load p input)) h) put

  line_refuses : (e : line.Refusal) → WhereTold i.left (λ input. (load p input).refusal ≡ Some e) → WhereTold i.left (λ input. HasPut (load p input).puts k k1)
      → RefusesSo (load_meaning w) (line_refused e) [] (lent i k []) (lent i1 k1 [])
  line_refuses e h put = record { file = file; is_file = is; refuses = refused_on i.left e h put; early = λ early. absurd early }

  pub load_stops : (fault : LoadFault)
      → (fault ≡ LoadFault.ReadFault → i1.faults ≡ raised i.faults) → (fault ≢ LoadFault.ReadFault → i1.faults ≡ i.faults)
      → (fault ≡ LoadFault.KeepFault → k1.faults ≡ raised k.faults) → (fault ≢ LoadFault.KeepFault → k1.faults ≡ k.faults) → (fault ≡ LoadFault.KeepFault → IsTrue k.is_steady → ⊥)
      → (fault ≡ LoadFault.ReadFault → AcceptsRead p.schema.fields (most_loaded p.rows) 0 i.left i1.left) → (fault ≡ LoadFault.ReadFault → HasPutFull p i.left i1.left k k1)
      → MatchOption (refusal_of fault) ⊤ (λ r. WhereTold i.left (λ input. (load p input).refusal ≡ Some r))
      → WhereTold i.left (λ input. LeavesPuts p input k k1 fault)
      → StopsWith (load_meaning w) (lent i k []) (lent i1 k1 []) (load_stop fault)
  load_stops LoadFault.NoMemory sc sm kc km ks a g r h = (km (λ e. cc), sm (λ e. cc), memory i.left refl h)
  load_stops LoadFault.KeepFault sc sm kc km ks a g r h =
      (kc refl, sm (λ e. cc), refl, (λ kept. ks refl kept.steady), inr (break_off true (told_so i.left (λ input. LeavesPuts p input k k1 LoadFault.KeepFault) (λ input. BreaksOff true (load p input).puts k k1) (λ input x. x) h)))
  load_stops LoadFault.ReadFault sc sm kc km ks a g r h = (
    sc refl,
    km (λ e. cc),
    refl,
    record {
      file = file;
      is_file = is;
      opens = load_opens;
      accepts = accepts (a refl);
      puts = before_end (told_so i.left (λ input. LeavesPuts p input k k1 LoadFault.ReadFault) (λ input. HasPutTablets p input k k1) (λ input x. x) h);
      given = given i.left i1.left (g refl);
    },
    refl,
  )
  load_stops (LoadFault.BadLine n x) sc sm kc km ks a g r h = (
    km (λ e. cc),
    sm (λ e. cc),
    refl,
    line_refuses _ r (told_so i.left (λ input. LeavesPuts p input k k1 (LoadFault.BadLine n x)) (λ input. HasPut (load p input).puts k k1) (λ input y. y) h),
  )
  load_stops (LoadFault.LineTooLong n) sc sm kc km ks a g r h = (
    km (λ e. cc),
    sm (λ e. cc),
    refl,
    line_refuses _ r (told_so i.left (λ input. LeavesPuts p input k k1 (LoadFault.LineTooLong n)) (λ input. HasPut (load p input).puts k k1) (λ input y. y) h),
  )
  load_stops (LoadFault.TooManyRecords n) sc sm kc km ks a g r h = (
    km (λ e. cc),
    sm (λ e. cc),
    refl,
    line_refuses _ r (told_so i.left (λ input. LeavesPuts p input k k1 (LoadFault.TooManyRecords n)) (λ input. HasPut (load p input).puts k k1) (λ input y. y) h),
  )

  pub done_on : (left : Option (List ℕ)) (text : List ℕ) (records tablets : ℕ) → WhereTold left (λ input. (load p input).refusal ≡ None) → WhereTold left (λ input. records ≡ (load p input).records)
      → WhereTold left (λ input. tablets ≡ (load p input).tablets) → WhereTold left (λ input. HasPut (load p input).puts k k1) → text ≡ loaded_text records tablets
      → WhereTold left (λ input. IsDoneSo text k k1 (load_schema w input (parse_schema file)))
  done_on None text records tablets a r t h e = tt
  done_on (Some input) text records tablets a r t h e =
      let same : text ≡ loaded_text (load p input).records (load p input).tablets = e ∙ ap₂ loaded_text r t in
      ((load p input).puts, on input ∙ ap (loaded_outcome (load p input)) a ∙ ap (λ (x : List ℕ). done x (load p input).puts) (sym same), h)

-- a command that is lent no links leaves them
module _ (w : LoadWords) (i i1 : SourceShown) (k k1 : LinkShown) (ls : List LinkShown) where
  some_links : PutsSome (load_meaning w) (lent i k []) (lent i1 k1 []) → PutsSome (load_meaning w) (lent i k ls) (lent i1 k1 ls)
  some_links (inl h) = inl h
  some_links (inr h) = inr (record { file = h.file; is_file = h.is_file; puts = h.puts })

  break_links : (known : Bool) → PutsBreak known (load_meaning w) (lent i k []) (lent i1 k1 []) → PutsBreak known (load_meaning w) (lent i k ls) (lent i1 k1 ls)
  break_links known h = record { file = h.file; is_file = h.is_file; opens = h.opens; breaks = h.breaks }

  memory_links : PutsSome (load_meaning w) (lent i k []) (lent i1 k1 []) ⊎ PutsBreak false (load_meaning w) (lent i k []) (lent i1 k1 [])
      → PutsSome (load_meaning w) (lent i k ls) (lent i1 k1 ls) ⊎ PutsBreak false (load_meaning w) (lent i k ls) (lent i1 k1 ls)
  memory_links (inl h) = inl (some_links h)
  memory_links (inr h) = inr (break_links false h)

  failed_links : ((i1 ≡ i) × IsUnput k k1) ⊎ PutsBreak true (load_meaning w) (lent i k []) (lent i1 k1 []) → ((i1 ≡ i) × IsUnput k k1) ⊎ PutsBreak true (load_meaning w) (lent i k ls) (lent i1 k1 ls)
  failed_links (inl h) = inl h
  failed_links (inr h) = inr (break_links true h)

  pub load_links : (stop : Stop) → StopsWith (load_meaning w) (lent i k []) (lent i1 k1 []) stop → StopsWith (load_meaning w) (lent i k ls) (lent i1 k1 ls) stop
  load_links Stop.Usage h = h
  load_links Stop.NoMemory h = (h.0, h.1, memory_links h.2)
  load_links Stop.Source h =
      (h.0, h.1, refl, record { file = h.3.file; is_file = h.3.is_file; opens = h.3.opens; accepts = h.3.accepts; puts = h.3.puts; given = h.3.given }, h.4)
  load_links Stop.Keeper h = (h.0, h.1, refl, h.3, failed_links h.4)
  load_links (Stop.Refused r) h = (h.0, h.1, refl, record { file = h.3.file; is_file = h.3.is_file; refuses = h.3.refuses; early = h.3.early })
  load_links (Stop.Left left) h = let n : 0 < 0 = h.1 in absurd (omega (arith, n))
  load_links (Stop.Most text left) h = let n : 0 < 0 = h.1 in absurd (omega (arith, n))
  load_links (Stop.LeftFile cause) h = let n : 0 < 0 = h.1 in absurd (omega (arith, n))
