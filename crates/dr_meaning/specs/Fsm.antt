-- The command `fsm`: the automaton of leaves in schema order, or the first refusal.
use Rattle.std.specs.Prelude.{ℕ, suc, List, [], ◌∷◌, ◌++◌, map, if◌then◌else◌, Result, Ok, Err}
use Rattle.std.specs.List.{list_any, filter_map, slice_get}
use Rattle.dr_meaning.specs.Schema.{Schema, Fields}
use Rattle.dr_meaning.specs.SchemaText.{SchemaFault, parse_schema}
use Rattle.dr_meaning.specs.Path.{Leaf, PathFault, find_leaf, same_path}
use Rattle.dr_meaning.specs.Automaton.{schema_order, automaton_text}
use Rattle.dr_meaning.specs.Refusals.{CommandRefusal, schema_refused, field_refused}

-- leaves with one more behind them, but one that is among them isn't counted again
abbrev pub with_leaf : List Leaf → Leaf → List Leaf
with_leaf ls l = if list_any (λ (m : Leaf). same_path l.path m.path) ls then ls else ls ++ l ∷ []

abbrev pub or_field_refusal : ℕ → (Leaf → Result (List Leaf) CommandRefusal) → Result Leaf PathFault → Result (List Leaf) CommandRefusal
or_field_refusal n rest (Ok l) = rest l
or_field_refusal n rest (Err e) = Err (field_refused n e)

-- the leaves that FIELD words name, the first of which has this number, behind those named before; or the first word that is refused
abbrev pub named_leaves : Fields → List Leaf → ℕ → List (List ℕ) → Result (List Leaf) CommandRefusal
named_leaves fs ls n [] = Ok ls
named_leaves fs ls n (w ∷ ws) = or_field_refusal n (λ l. named_leaves fs (with_leaf ls l) (suc n) ws) (find_leaf w fs)

-- leaves by their places
abbrev pub leaves_at : List Leaf → List ℕ → List Leaf
leaves_at ls is = filter_map (λ i. slice_get ls i) is

abbrev pub fsm_leaves : Fields → List Leaf → List ℕ
fsm_leaves fs ls = automaton_text (leaves_at ls (schema_order fs (map (λ (l : Leaf). l.path) ls)))

abbrev pub fsm_named : Fields → Result (List Leaf) CommandRefusal → Result (List ℕ) CommandRefusal
fsm_named fs (Ok ls) = Ok (fsm_leaves fs ls)
fsm_named fs (Err e) = Err e

abbrev pub fsm_schema : List (List ℕ) → Result Schema SchemaFault → Result (List ℕ) CommandRefusal
fsm_schema fields (Ok s) = fsm_named s.fields (named_leaves s.fields [] 0 fields)
fsm_schema fields (Err e) = Err (schema_refused e)

-- the text that `fsm` prints of a schema text and FIELD words, or the first refusal: the schema, then the words in order
unfoldable pub fsm : List ℕ → List (List ℕ) → Result (List ℕ) CommandRefusal
fsm schema fields = fsm_schema fields (parse_schema schema)
