-- The branches of a walk in the order in which they are left, each with whether it is dropped: as the moves tell it, and as the query keeps it.
use Rattle.std.specs.Prelude.{ℕ, zero, suc, ◌+◌, List, [], ◌∷◌, ◌++◌, Bool, false, not, Option, Some, is_some}
use Rattle.dr_meaning.specs.Schema.{Repetition, required, optional, repeated, Fields, no_fields, field, Shape, leaf, group, repetition_count}
use Rattle.dr_meaning.specs.Schema.{shape_repeated_fields}
use Rattle.dr_meaning.specs.Path.{Step}
use Rattle.dr_meaning.specs.Record.{Node, Instances, no_instances, instance, Instance, inner, single, put_at}
use Rattle.dr_meaning.specs.Kept.{keep_instance, kept_along}
use Rattle.dr_meaning.specs.Automaton.{Pick, picks, first_picks, later_picks}
use Rattle.dr_meaning.specs.Walk.{first_of, first_slot, other_slots, node_of}
use Rattle.dr_moves.specs.Context.{Context, with_value}
use Rattle.dr_moves.specs.Tour.{Tour, over, saw, inside, after}
use Rattle.dr_moves.specs.Condition.{Watch, some_true, rest_below, is_dropped}

-- a branch that is left: the number of its field, and whether it is dropped
pub record Leaving : Type 0 where
  pub number : ℕ
  pub dropped : Bool

-- as the moves tell it: on the chain, where no row was true in it
abbrev pub tour_leavings : Watch → Option (List ℕ) → Context → Tour → List Leaving
tour_leavings w r c over = []
tour_leavings w r c (saw i t T) = tour_leavings w r (with_value i t.value c) T
tour_leavings w r c (inside k B T) =
    tour_leavings w (rest_below k r) c B ++ record { number = k; dropped = is_dropped (rest_below k r) (some_true w c B) } ∷ tour_leavings w r (after c B) T

-- ---- as the query keeps it

-- how the instances of a field stand to a condition's chain: off it; or on it, with the rest of the chain below them, the record with others in
-- their place, and the condition in a row
pub data Standing : Type 0 where
  off : Standing
  on : List Step → (Instances → Node) → (Node → Bool) → Standing

-- one field stands so, the others of its group are off the chain
abbrev pub at_place : ℕ → Standing → ℕ → Standing
at_place zero s zero = s
at_place zero s (suc i) = off
at_place (suc j) s zero = off
at_place (suc j) s (suc i) = at_place j s i

-- how the fields of a node stand, by their places, along the rest of a chain
abbrev pub fields_stand : List Step → (Node → Bool) → Node → ℕ → Standing
fields_stand [] test n i = off
fields_stand (s ∷ p) test n i = at_place s.place (on p (λ xs. put_at s.place xs n) test) i

-- how the fields of an instance's node stand
abbrev pub stand_below : Standing → Node → ℕ → Standing
stand_below off n i = off
stand_below (on p row test) n i = fields_stand p (λ m. test (row (single (inner m)))) n i

-- whether the query drops an instance
abbrev pub is_left_out : Standing → Instance → Bool
is_left_out off x = false
is_left_out (on p row test) x = not (is_some (keep_instance (kept_along p) (λ y. row (single y)) test x))

-- no branch where no selected leaf is
abbrev pub if_selected : List Pick → List Leaving → List Leaving
if_selected [] ls = []
if_selected (g ∷ G) ls = ls

-- the branches of each instance
abbrev pub each_leaving : (Instance → List Leaving) → Instances → List Leaving
each_leaving each no_instances = []
each_leaving each (instance x xs) = each x ++ each_leaving each xs

-- each instance of a repeated field is a branch; in any other field only those below are
abbrev pub field_leavings : Repetition → (Instance → List Leaving) → (Option Instance → List Leaving) → Instances → List Leaving
field_leavings required each below xs = below (first_of xs)
field_leavings optional each below xs = below (first_of xs)
field_leavings repeated each below xs = each_leaving each xs

-- an instance of the repeated field k, behind the branches in it
abbrev pub own_leaving : ℕ → Standing → (Option Instance → List Leaving) → Instance → List Leaving
own_leaving k s below x = below (Some x) ++ record { number = k; dropped = is_left_out s x } ∷ []

abbrev mutual
  -- the branches in a node, whose fields stand so, the first repeated one with the number k
  pub node_leavings : Fields → List Pick → ℕ → (ℕ → Standing) → Node → List Leaving
  node_leavings no_fields G k stand n = []
  node_leavings (field m r s fs) G k stand n =
      if_selected (first_picks G) (field_leavings r (own_leaving k (stand 0) (instance_leavings s (first_picks G) (suc k) (stand 0)))
      (instance_leavings s (first_picks G) k (stand 0)) (first_slot n))
      ++ node_leavings fs (later_picks G) (k + (repetition_count r + shape_repeated_fields s)) (λ i. stand (suc i)) (other_slots n)

  -- the branches in an instance
  pub instance_leavings : Shape → List Pick → ℕ → Standing → Option Instance → List Leaving
  instance_leavings (leaf j) G k s x = []
  instance_leavings (group fs) G k s x = node_leavings fs G k (stand_below s (node_of x)) (node_of x)

-- the branches of a record, which is the last, by a condition with this chain
abbrev pub record_leavings : Fields → List (List Step) → List Step → (Node → Bool) → Node → List Leaving
record_leavings fs F p test n =
    node_leavings fs (picks F) 1 (fields_stand p test n) n ++ record { number = 0; dropped = not (is_some (kept_along p test n)) } ∷ []
