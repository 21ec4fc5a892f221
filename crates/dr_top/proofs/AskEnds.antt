-- The answer of `ask`, from its steps.
use Rattle.std.specs.Prelude.{◌≡◌, ◌≢◌, ℕ, List, [], Some, None, Result, Ok, Err, MatchOption, ⊤}
use Rattle.std.proofs.Common.{refl, sym, ap, ◌∙◌, subst}
use Rattle.dr_meaning.specs.Schema.{Schema}
use Rattle.dr_meaning.specs.SchemaText.{SchemaFault, parse_schema}
use Rattle.dr_meaning.specs.Record.{Node}
use Rattle.dr_meaning.specs.Lines as line
use Rattle.dr_meaning.specs.Refusals.{QueryRefusal}
use Rattle.dr_meaning.specs.Ask.{most_asked}
use Rattle.dr_sub_meaning.specs.Nested.{NestedQuery}
use Rattle.dr_sub_meaning.specs.NestedAsk.{ask, ask_schema, ask_query, ask_records, nested_answer_text, read_nested}
use Rattle.dr_outside.specs.Faults.{raised}
use Rattle.dr_outside.specs.Source.{SourceShown}
use Rattle.dr_input.specs.Whole.{whole_lines}
use Rattle.dr_input.specs.Taken.{AcceptsRead, WhereTold}
use Rattle.dr_load.specs.Faults.{refusal_of as line_refusal_of}
use Rattle.dr_load.specs.declared.fault.LoadFault.{LoadFault}
use Rattle.dr_sub.specs.Texts.{IsRefusedAs, refusal_of}
use Rattle.dr_sub.specs.declared.refusal.TextFault.{TextFault}
use Rattle.dr_commands.specs.Refusals.{Refusal as Refused, line_refused}
use Rattle.dr_commands.specs.Meaning.{Look, plain, done, refused, puts_in, first_refusal, IsEarly}
use Rattle.dr_commands.specs.Ask.{AskWords, ask_meaning}
use Rattle.dr_top.specs.World.{outcome_on, Opens, Accepts}
use Rattle.dr_top.specs.Stops.{StopsEarly, StopsReading, query_stop, load_stop}
use Rattle.dr_top.proofs.InputLemmas.{records_accepted}
use Rattle.dr_top.proofs.OutcomeLemmas.{told_so, given_so}
use Rattle.dr_top.proofs.PutLemmas.{plain_puts}
use Rattle.dr_top.proofs.CommandLemmas.{RefusesSchema}

pub ask_refuses_schema : (w : AskWords) → RefusesSchema (ask_meaning w)
unfolding ask
ask_refuses_schema w look e h = ap (λ (r : Result Schema SchemaFault). plain (ask_schema w.rows w.query look.input r)) h

pub ask_puts : (w : AskWords) (look : Look) → puts_in ((ask_meaning w).outcome look) ≡ []
ask_puts w look = plain_puts (ask w.rows look.file w.query look.input)

-- ---- the query

-- with a schema, the outcome is that of the query that is read
by_query : (w : AskWords) (file text input : List ℕ) (s : Schema) (r : Result NestedQuery QueryRefusal) → text ≡ w.query → parse_schema file ≡ Ok s → read_nested s text ≡ r → plain (ask w.rows file w.query input) ≡ plain (ask_query w.rows s input r)
unfolding ask
by_query w file text input s r t f e =
    ap (λ (x : Result Schema SchemaFault). plain (ask_schema w.rows w.query input x)) f
    ∙ ap (λ (x : Result NestedQuery QueryRefusal). plain (ask_query w.rows s input x)) (ap (read_nested s) (sym t) ∙ e)

pub ask_query_early : (w : AskWords) (file text : List ℕ) (s : Schema) (fault : TextFault) → text ≡ w.query → parse_schema file ≡ Ok s → IsRefusedAs (read_nested s text) fault → StopsEarly (outcome_on (ask_meaning w) file) (query_stop fault)
ask_query_early w file text s TextFault.NoMemory t f h = tt
ask_query_early w file text s (TextFault.Refused n x) t f h = λ input. by_query w file text input s (Err (refusal_of n x)) t f h

-- ---- the records

late : (s : Schema) (q : NestedQuery) (recs : Result (List Node) line.Refusal) (r : Refused) → IsEarly r → first_refusal (plain (ask_records s q recs)) ≡ Some r → ⊥
late s q (Ok ns) r early e = cc
late s q (Err x) r early e = let is : line_refused x ≡ r = cc in subst (λ (y : Refused). IsEarly y) (sym is) early

module _ (w : AskWords) (file text : List ℕ) (s : Schema) (q : NestedQuery) (t : text ≡ w.query) (f : parse_schema file ≡ Ok s) (n : read_nested s text ≡ Ok q) where
  -- the outcome is that of the records that are read
  by_records : (input : List ℕ) (r : Result (List Node) line.Refusal) → line.records_of s.fields (most_asked w.rows) input ≡ r → outcome_on (ask_meaning w) file input ≡ plain (ask_records s q r)
  by_records input r h = by_query w file text input s (Ok q) t f n ∙ ap (λ (x : Result (List Node) line.Refusal). plain (ask_records s q x)) h

  pub ask_opens : Opens (outcome_on (ask_meaning w) file)
  ask_opens = λ input r early e. late s q (line.records_of s.fields (most_asked w.rows) input) r early (ap first_refusal (sym (by_records input _ refl)) ∙ e)

  -- what the source gave is accepted
  accepts : (i i1 : SourceShown) → AcceptsRead s.fields (most_asked w.rows) 0 i.left i1.left → Accepts (outcome_on (ask_meaning w) file) i i1
  accepts i i1 a =
      given_so i.left i1.left (λ read. (line.taken_from s.fields (most_asked w.rows) 1 (line.lines_of (whole_lines read))).refusal ≡ None) (λ read. first_refusal (outcome_on (ask_meaning w) file (whole_lines read)) ≡ None)
      (λ read h. ap first_refusal (by_records (whole_lines read) _ (records_accepted s.fields (most_asked w.rows) (whole_lines read) h))) a

  line_ends : (i : SourceShown) (e : line.Refusal) → WhereTold i.left (λ input. line.records_of s.fields (most_asked w.rows) input ≡ Err e) → WhereTold i.left (λ input. outcome_on (ask_meaning w) file input ≡ refused (line_refused e) [])
  line_ends i e h = told_so i.left _ _ (λ input g. by_records input (Err e) g) h

  pub ask_load_stops : (i i1 : SourceShown) (fault : LoadFault) → (fault ≡ LoadFault.ReadFault → i1.faults ≡ raised i.faults) → (fault ≢ LoadFault.ReadFault → i1.faults ≡ i.faults) → fault ≢ LoadFault.KeepFault
      → (fault ≡ LoadFault.ReadFault → AcceptsRead s.fields (most_asked w.rows) 0 i.left i1.left) → MatchOption (line_refusal_of fault) ⊤ (λ r. WhereTold i.left (λ input. line.records_of s.fields (most_asked w.rows) input ≡ Err r)) → StopsReading (outcome_on (ask_meaning w) file) i i1 (load_stop fault)
  ask_load_stops i i1 LoadFault.NoMemory sc sm never a h = sm (λ e. cc)
  ask_load_stops i i1 LoadFault.KeepFault sc sm never a h = absurd (never refl)
  ask_load_stops i i1 LoadFault.ReadFault sc sm never a h = (sc refl, ask_opens, accepts i i1 (a refl))
  ask_load_stops i i1 (LoadFault.BadLine m x) sc sm never a h = (sm (λ e. cc), line_ends i _ h, λ early. absurd early)
  ask_load_stops i i1 (LoadFault.LineTooLong m) sc sm never a h = (sm (λ e. cc), line_ends i _ h, λ early. absurd early)
  ask_load_stops i i1 (LoadFault.TooManyRecords m) sc sm never a h = (sm (λ e. cc), line_ends i _ h, λ early. absurd early)

  -- ---- the text

  pub ask_ends : (i : SourceShown) (out : List ℕ) → WhereTold i.left (λ input. (R : List Node) × (line.records_of s.fields (most_asked w.rows) input ≡ Ok R) × (out ≡ nested_answer_text s q R))
      → WhereTold i.left (λ input. outcome_on (ask_meaning w) file input ≡ done out [])
  ask_ends i out h =
      told_so i.left (λ input. (R : List Node) × (line.records_of s.fields (most_asked w.rows) input ≡ Ok R) × (out ≡ nested_answer_text s q R)) (λ input. outcome_on (ask_meaning w) file input ≡ done out [])
      (λ input g. by_records input (Ok g.0) g.1 ∙ ap (λ (y : List ℕ). done y []) (sym g.2)) h
