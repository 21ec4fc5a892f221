-- What is taken of a row, by what was read last of each leaf, and at which leaf a row fires.
use Rattle.std.specs.Prelude.{ℕ, suc, List, [], ◌∷◌, ◌++◌, map, Bool, true, false, ◌==◌, if◌then◌else◌, Option, Some, None, ◌≡◌}
use Rattle.dr_meaning.specs.Record.{Value}
use Rattle.dr_moves.specs.Context.{Context}
use Rattle.dr_partials.specs.Putting.{Taken, Put}
use Rattle.dr_levels.specs.declared.triplet.ValueRef.{ValueRef}
use Rattle.dr_plan.specs.declared.aggregate.Aggregate.{Aggregate}
use Rattle.dr_plan.specs.declared.expression.Expr.{Expr}
use Rattle.dr_scalar.specs.OverSlots.{expr_over}
use Rattle.dr_scalar.specs.Slots.{slot_value}
use Rattle.dr_scalar.specs.Leaves.{expr_leaves, greatest}
use Rattle.dr_group.specs.Views.{lent_cell}
use Rattle.dr_within.specs.declared.taking.Taking.{Taking}

-- what is taken of each of some rows: nothing, the row, or the value of an expression in it; each for the aggregate of a number
pub data Take : Type 0 where
  take_nothing : Take
  take_rows : ℕ → Take
  take_values : ℕ → Expr → Take

abbrev pub taking_view : Taking → Take
taking_view Taking.Nothing = take_nothing
taking_view (Taking.Row i) = take_rows i
taking_view (Taking.Value i e) = take_values i e.now

abbrev pub takings_view : List Taking → List Take
takings_view ts = map taking_view ts

-- the value that is taken
abbrev pub value_read : Take → Context → Option Value
value_read take_nothing c = None
value_read (take_rows i) c = None
value_read (take_values i e) c = expr_over c e

-- what is taken, if that is its value
abbrev pub taken_with : Take → Option Value → Option Taken
taken_with take_nothing v = None
taken_with (take_rows i) v = Some (record { aggregate = i; value = v })
taken_with (take_values i e) v = Some (record { aggregate = i; value = v })

-- for which aggregate something is taken, if for one
abbrev pub aggregate_for : Take → Option ℕ
aggregate_for take_nothing = None
aggregate_for (take_rows i) = Some i
aggregate_for (take_values i e) = Some i

-- what is put, by the numbers of the keys' leaves
abbrev pub put_read : List ℕ → Take → Context → Put
put_read keys t c = record { keys = map c keys; taken = taken_with t (value_read t c) }

-- for each of some takings
abbrev pub all_read : List ℕ → List Take → Context → List Put
all_read keys ts c = map (λ (t : Take). put_read keys t c) ts

-- for a taking, with what was read last of each leaf
abbrev pub put_with : List ℕ → Taking → List (Option ValueRef) → Put
put_with keys t slots = put_read keys (taking_view t) (slot_value slots)

-- and for each of some takings
abbrev pub puts_with : List ℕ → List Taking → List (Option ValueRef) → List Put
puts_with keys ts slots = all_read keys (takings_view ts) (slot_value slots)

-- a key tuple has what was read last of these leaves
abbrev pub IsKeyOf : List (Option ValueRef) → List (Option ValueRef) → List ℕ → Type 0
IsKeyOf key slots keys = map lent_cell key ≡ map (slot_value slots) keys

-- how many needn't be put: nothing before others, which make the group as well
abbrev pub needless : List Take → ℕ
needless [] = 0
needless (take_nothing ∷ []) = 0
needless (take_nothing ∷ t ∷ ts) = 1
needless (take_rows i ∷ ts) = 0
needless (take_values i e ∷ ts) = 0

-- ---- at which leaf a row fires

-- the numbers of the leaves on which it depends
abbrev pub leaves_of : List ℕ → Take → List ℕ
leaves_of keys take_nothing = keys
leaves_of keys (take_rows i) = keys
leaves_of keys (take_values i e) = keys ++ expr_leaves e

-- the last of them; none where it depends on none
abbrev pub fires_at : List ℕ → Take → Option ℕ
fires_at keys t = greatest (leaves_of keys t)

abbrev pub same_leaf : Option ℕ → Option ℕ → Bool
same_leaf None None = true
same_leaf None (Some j) = false
same_leaf (Some i) None = false
same_leaf (Some i) (Some j) = i == j

-- those of some takings that fire at this leaf, or at none
abbrev pub firing_at : List ℕ → Option ℕ → List Take → List Take
firing_at keys o [] = []
firing_at keys o (t ∷ ts) = if same_leaf (fires_at keys t) o then t ∷ firing_at keys o ts else firing_at keys o ts

-- ---- of a plan of groups

-- what is taken for an aggregate of this number
abbrev pub taking_of : ℕ → Aggregate → Take
taking_of i Aggregate.Rows = take_rows i
taking_of i (Aggregate.Of f e) = take_values i e

-- for aggregates of which the first is the ith
abbrev pub aggregate_takings : ℕ → List Aggregate → List Take
aggregate_takings i [] = []
aggregate_takings i (a ∷ A) = taking_of i a ∷ aggregate_takings (suc i) A

-- the key tuples alone, and then each aggregate
abbrev pub takings_of : List Aggregate → List Take
takings_of A = take_nothing ∷ aggregate_takings 0 A
