-- The answer of `fsm`, from its steps.
use Rattle.std.specs.Prelude.{◌≡◌, ℕ, List, [], Result, Ok, Err}
use Rattle.std.proofs.Common.{sym, ap, ◌∙◌}
use Rattle.dr_meaning.specs.Schema.{Schema}
use Rattle.dr_meaning.specs.SchemaText.{SchemaFault, parse_schema}
use Rattle.dr_meaning.specs.Refusals.{CommandRefusal, field_refused}
use Rattle.dr_meaning.specs.Path.{Leaf}
use Rattle.dr_meaning.specs.Fsm.{fsm, fsm_schema, fsm_named, fsm_leaves, named_leaves}
use Rattle.dr_nested.specs.Faults.{path_problem_view}
use Rattle.dr_commands.specs.Meaning.{plain, done}
use Rattle.dr_commands.specs.Fsm.{FsmWords, fsm_meaning}
use Rattle.dr_top.specs.World.{outcome_on}
use Rattle.dr_top.specs.Stops.{StopsEarly, FieldStops, field_stop}
use Rattle.dr_top.specs.declared.field.FieldFault.{FieldFault}
use Rattle.dr_top.proofs.CommandLemmas.{RefusesSchema}

pub fsm_refuses_schema : (w : FsmWords) → RefusesSchema (fsm_meaning w)
unfolding fsm
fsm_refuses_schema w look e h = ap (λ (r : Result Schema SchemaFault). plain (fsm_schema w.fields r)) h

-- with a schema, the outcome is that of the named leaves
by_leaves : (w : FsmWords) (file : List ℕ) (texts : List (List ℕ)) (s : Schema) (r : Result (List Leaf) CommandRefusal) → texts ≡ w.fields → parse_schema file ≡ Ok s → named_leaves s.fields [] 0 texts ≡ r
    → plain (fsm file w.fields) ≡ plain (fsm_named s.fields r)
unfolding fsm
by_leaves w file texts s r t f h =
    ap (λ (x : Result Schema SchemaFault). plain (fsm_schema w.fields x)) f
    ∙ ap (λ (x : Result (List Leaf) CommandRefusal). plain (fsm_named s.fields x)) (ap (named_leaves s.fields [] 0) (sym t) ∙ h)

pub fsm_field_early : (w : FsmWords) (file : List ℕ) (texts : List (List ℕ)) (s : Schema) (fault : FieldFault) → texts ≡ w.fields → parse_schema file ≡ Ok s
    → FieldStops (named_leaves s.fields [] 0 texts) fault → StopsEarly (outcome_on (fsm_meaning w) file) (field_stop fault)
fsm_field_early w file texts s FieldFault.NoMemory t f h = tt
fsm_field_early w file texts s (FieldFault.Refused n x) t f h = λ input. by_leaves w file texts s (Err (field_refused n (path_problem_view x))) t f h

pub fsm_ends : (w : FsmWords) (file out : List ℕ) (texts : List (List ℕ)) (s : Schema) (ls : List Leaf) → texts ≡ w.fields → parse_schema file ≡ Ok s
    → named_leaves s.fields [] 0 texts ≡ Ok ls → out ≡ fsm_leaves s.fields ls → outcome_on (fsm_meaning w) file [] ≡ done out []
fsm_ends w file out texts s ls t f n o = by_leaves w file texts s (Ok ls) t f n ∙ ap (λ (x : List ℕ). done x []) (sym o)
