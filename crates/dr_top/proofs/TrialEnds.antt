-- The answer of `trial`, from its steps.
use Rattle.std.specs.Prelude.{◌≡◌, ◌≢◌, ℕ, List, [], Result, Ok, Err, MatchOption, ⊤}
use Rattle.std.proofs.Common.{refl, sym, ap, ◌∙◌}
use Rattle.dr_meaning.specs.Schema.{Schema}
use Rattle.dr_meaning.specs.SchemaText.{SchemaFault, parse_schema}
use Rattle.dr_meaning.specs.Record.{Node}
use Rattle.dr_meaning.specs.Lines as line
use Rattle.dr_meaning.specs.Refusals.{QueryRefusal, CommandRefusal}
use Rattle.dr_meaning.specs.Ask.{most_asked}
use Rattle.dr_sub_meaning.specs.Nested.{NestedQuery}
use Rattle.dr_sub_meaning.specs.NestedAsk.{ask, ask_schema, ask_query, ask_records, read_nested}
use Rattle.dr_nested.specs.Faults.{schema_fault_view}
use Rattle.dr_nested.specs.declared.fault.SchemaFault.{SchemaFault as BadSchema}
use Rattle.dr_gen.specs.Document.{document_text, trial_query}
use Rattle.dr_gen.specs.Generator.{lines_from}
use Rattle.dr_outside.specs.Faults.{raised}
use Rattle.dr_load.specs.Faults.{refusal_of as line_refusal_of}
use Rattle.dr_load.specs.declared.fault.LoadFault.{LoadFault}
use Rattle.dr_sub.specs.Texts.{IsRefusedAs, refusal_of}
use Rattle.dr_sub.specs.declared.refusal.TextFault.{TextFault}
use Rattle.dr_serve.specs.Asked.{IsAnswerTo}
use Rattle.dr_commands.specs.Meaning.{plain, done}
use Rattle.dr_commands.specs.Trial.{TrialWords, trial_meaning}
use Rattle.dr_top.specs.World.{outcome_on}
use Rattle.dr_top.specs.Stops.{StopsEarly, schema_stop, query_stop, load_stop}

-- its input
abbrev pub made : TrialWords → List ℕ
made w = lines_from w.seed w.records

-- what is asked of it
abbrev asked : TrialWords → Result (List ℕ) CommandRefusal
asked w = ask w.rows document_text trial_query (made w)

-- its schema is that of the text that is read
pub schema_is : (text : List ℕ) (r : Result Schema SchemaFault) → text ≡ document_text → parse_schema text ≡ r → parse_schema document_text ≡ r
schema_is text r e h = ap parse_schema (sym e) ∙ h

-- a source that never fails doesn't
pub never_raised : 0 ≡ raised 0 → ⊥
never_raised e = cc

-- ---- the schema

by_schema : (w : TrialWords) (r : Result Schema SchemaFault) → parse_schema document_text ≡ r → asked w ≡ ask_schema w.rows trial_query (made w) r
unfolding ask
by_schema w r h = ap (ask_schema w.rows trial_query (made w)) h

pub trial_schema_early : (w : TrialWords) (fault : BadSchema) → MatchOption (schema_fault_view fault) ⊤ (λ f. parse_schema document_text ≡ Err f) → StopsEarly (outcome_on (trial_meaning w) []) (schema_stop fault)
trial_schema_early w BadSchema.NoMemory h = tt
trial_schema_early w (BadSchema.Refused p x) h = λ input. ap plain (by_schema w _ h)

-- ---- the query

by_query : (w : TrialWords) (s : Schema) (r : Result NestedQuery QueryRefusal) → parse_schema document_text ≡ Ok s → read_nested s trial_query ≡ r → asked w ≡ ask_query w.rows s (made w) r
by_query w s r f h = by_schema w (Ok s) f ∙ ap (ask_query w.rows s (made w)) h

pub trial_query_early : (w : TrialWords) (s : Schema) (fault : TextFault) → parse_schema document_text ≡ Ok s → IsRefusedAs (read_nested s trial_query) fault → StopsEarly (outcome_on (trial_meaning w) []) (query_stop fault)
trial_query_early w s TextFault.NoMemory f h = tt
trial_query_early w s (TextFault.Refused n x) f h = λ input. ap plain (by_query w s (Err (refusal_of n x)) f h)

-- ---- the records

by_records : (w : TrialWords) (s : Schema) (q : NestedQuery) (r : Result (List Node) line.Refusal) → parse_schema document_text ≡ Ok s → read_nested s trial_query ≡ Ok q → line.records_of s.fields (most_asked w.rows) (made w) ≡ r
    → asked w ≡ ask_records s q r
by_records w s q r f n h = by_query w s (Ok q) f n ∙ ap (ask_records s q) h

pub trial_load_early : (w : TrialWords) (s : Schema) (q : NestedQuery) (fault : LoadFault) → parse_schema document_text ≡ Ok s → read_nested s trial_query ≡ Ok q → fault ≢ LoadFault.ReadFault → fault ≢ LoadFault.KeepFault
    → MatchOption (line_refusal_of fault) ⊤ (λ r. line.records_of s.fields (most_asked w.rows) (made w) ≡ Err r) → StopsEarly (outcome_on (trial_meaning w) []) (load_stop fault)
trial_load_early w s q LoadFault.NoMemory f n never_source never_keeper h = tt
trial_load_early w s q LoadFault.ReadFault f n never_source never_keeper h = absurd (never_source refl)
trial_load_early w s q LoadFault.KeepFault f n never_source never_keeper h = absurd (never_keeper refl)
trial_load_early w s q (LoadFault.BadLine m x) f n never_source never_keeper h = λ input. ap plain (by_records w s q _ f n h)
trial_load_early w s q (LoadFault.LineTooLong m) f n never_source never_keeper h = λ input. ap plain (by_records w s q _ f n h)
trial_load_early w s q (LoadFault.TooManyRecords m) f n never_source never_keeper h = λ input. ap plain (by_records w s q _ f n h)

-- ---- the text

pub trial_ends : (w : TrialWords) (out : List ℕ) (s : Schema) (q : NestedQuery) → parse_schema document_text ≡ Ok s → read_nested s trial_query ≡ Ok q → IsAnswerTo s q w.rows out (made w) → outcome_on (trial_meaning w) [] [] ≡ done out []
trial_ends w out s q f n h = ap plain (by_records w s q (Ok h.0) f n h.1) ∙ ap (λ (t : List ℕ). done t []) (sym h.2)
