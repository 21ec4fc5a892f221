-- What was read last of each leaf: lent for a stretch of moves, and kept from one stretch to the next.
use Rattle.std.specs.Prelude.{◌≡◌, ◌<◌, ℕ, ⊤, List, map, length, Option, None, Some, string_bytes}
use Rattle.std.specs.List.{slice_index_or}
use Rattle.dr_meaning.specs.Schema.{Schema}
use Rattle.dr_meaning.specs.Path.{paths_of_leaves}
use Rattle.dr_meaning.specs.Record.{Value, bool_value, int_value, text_value, Node}
use Rattle.dr_meaning.specs.Walk.{Move, enter, value, leave, walk}
use Rattle.dr_kept_laws.specs.MovedContexts.{after_moves}
use Rattle.dr_plan.specs.Planned.{plan_leaves}
use Rattle.dr_plan.specs.declared.plan.Plan.{Plan}
use Rattle.dr_scalar.specs.Slots.{slot_value}
use Rattle.dr_within.specs.declared.last_read.Scalar.{Scalar}
use Rattle.dr_within.specs.declared.last_read.LastValue.{LastValue}
use Rattle.dr_within.specs.declared.last_read.LastRead.{LastRead}
use Rattle.dr_within.specs.declared.row.Row.{Row}

-- a leaf's move is of one of so many leaves
abbrev pub IsOfLeaf : ℕ → Move → Type 0
IsOfLeaf n (enter k) = ⊤
IsOfLeaf n (value i t) = i < n
IsOfLeaf n (leave k) = ⊤

-- a row of so many leaves holds what was read last of each by these moves
abbrev pub HasRead : ℕ → List Move → Row → Type 0
HasRead n ms r = (length r.slots.items ≡ n) × (after_moves (λ i. None) ms ≡ slot_value r.slots.items)

-- a value that is kept
abbrev pub scalar_value : List ℕ → Scalar → Option Value
scalar_value bytes Scalar.Null = None
scalar_value bytes (Scalar.Bool b) = Some (bool_value b)
scalar_value bytes (Scalar.Int z) = Some (int_value z)
scalar_value bytes Scalar.Text = Some (text_value bytes)

abbrev pub last_value : LastValue → Option Value
last_value v = scalar_value (string_bytes v.text) v.scalar

-- that of the leaf of this number
abbrev pub value_in : List (Option Value) → ℕ → Option Value
value_in vs i = slice_index_or vs i None

-- what was read last of each of so many leaves by these moves is kept
abbrev pub HasLast : ℕ → List Move → LastRead → Type 0
HasLast n ms l = (length l.values.items ≡ n) × (after_moves (λ i. None) ms ≡ value_in (map last_value l.values.items))

-- the walk of records over a plan's leaves
abbrev pub plan_walk : Schema → Plan → List Node → List Move
plan_walk s p R = walk s.fields (paths_of_leaves (plan_leaves p)) R
