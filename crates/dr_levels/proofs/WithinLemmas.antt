-- The orders hold only places of the selection.
use Rattle.std.specs.Prelude.{ℕ, zero, suc, ◌+◌, ◌<◌, ◌≤◌, List, [], ◌∷◌, ◌++◌, length, All}
use Rattle.std.proofs.Common.{arith}
use Rattle.dr_meaning.specs.Path.{Step}
use Rattle.dr_meaning.specs.Schema.{Repetition, required, optional, repeated, Fields, no_fields, field, Shape, leaf, group}
use Rattle.dr_meaning.specs.Automaton.{Pick, picks_from, picks, first_picks, first_picks_if, first_picks_and, later_picks, later_picks_if, later_picks_and, indexes, schema_order_in, shape_schema_order, schema_order, near_order, shape_near_order, far_order, shape_far_order, reading_order, unless_repeated, where_repeated}

abbrev Within : ℕ → List ℕ → Type 0
Within n [] = Unit {0}
Within n (i ∷ is) = (i < n) × Within n is

abbrev PicksWithin : ℕ → List Pick → Type 0
PicksWithin n [] = Unit {0}
PicksWithin n (f ∷ F) = (f.index < n) × PicksWithin n F

all_within : (n : ℕ) (is : List ℕ) → Within n is → All (λ (i : ℕ). i < n) is
all_within n [] w k d l = absurd (omega (arith, l))
all_within n (i ∷ is) w zero d l = w.0
all_within n (i ∷ is) w (suc k) d l = all_within n is w.1 k d (omega (arith, l))

append_within : (n : ℕ) (is js : List ℕ) → Within n is → Within n js → Within n (is ++ js)
append_within n [] js v w = w
append_within n (i ∷ is) js v w = (v.0, append_within n is js v.1 w)

indexes_within : (n : ℕ) (F : List Pick) → PicksWithin n F → Within n (indexes F)
indexes_within n [] w = tt
indexes_within n (f ∷ F) w = (w.0, indexes_within n F w.1)

picks_within : (n i : ℕ) (F : List (List Step)) → i + length F ≤ n → PicksWithin n (picks_from i F)
picks_within n i [] l = tt
picks_within n i (p ∷ F) l = (omega (arith, l), picks_within n (suc i) F (omega (arith, l)))

-- ---- behind and beside the first field of a group

behind_if_within : (n j : ℕ) (p : List Step) (i : ℕ) (F : List Pick) → i < n → PicksWithin n F → PicksWithin n (first_picks_if j p i F)
behind_if_within n zero p i F l w = (l, w)
behind_if_within n (suc j) p i F l w = w

behind_pick_within : (n : ℕ) (p : List Step) (i : ℕ) (F : List Pick) → i < n → PicksWithin n F → PicksWithin n (first_picks_and p i F)
behind_pick_within n [] i F l w = w
behind_pick_within n (s ∷ p) i F l w = behind_if_within n s.place p i F l w

behind_within : (n : ℕ) (F : List Pick) → PicksWithin n F → PicksWithin n (first_picks F)
behind_within n [] w = tt
behind_within n (f ∷ F) w = behind_pick_within n f.rest f.index (first_picks F) w.0 (behind_within n F w.1)

beside_if_within : (n j : ℕ) (s : Step) (p : List Step) (i : ℕ) (F : List Pick) → i < n → PicksWithin n F → PicksWithin n (later_picks_if j s p i F)
beside_if_within n zero s p i F l w = w
beside_if_within n (suc j) s p i F l w = (l, w)

beside_pick_within : (n : ℕ) (p : List Step) (i : ℕ) (F : List Pick) → i < n → PicksWithin n F → PicksWithin n (later_picks_and p i F)
beside_pick_within n [] i F l w = w
beside_pick_within n (s ∷ p) i F l w = beside_if_within n s.place s p i F l w

beside_within : (n : ℕ) (F : List Pick) → PicksWithin n F → PicksWithin n (later_picks F)
beside_within n [] w = tt
beside_within n (f ∷ F) w = beside_pick_within n f.rest f.index (later_picks F) w.0 (beside_within n F w.1)

-- ---- schema order

mutual
  schema_within : (n : ℕ) (fs : Fields) (F : List Pick) → PicksWithin n F → Within n (schema_order_in fs F)
  schema_within n no_fields F w = tt
  schema_within n (field m r s fs) F w =
      append_within n (shape_schema_order s (first_picks F)) (schema_order_in fs (later_picks F)) (shape_schema_within n s (first_picks F) (behind_within n F w)) (schema_within n fs (later_picks F) (beside_within n F w))

  shape_schema_within : (n : ℕ) (s : Shape) (F : List Pick) → PicksWithin n F → Within n (shape_schema_order s F)
  shape_schema_within n (leaf k) F w = indexes_within n F w
  shape_schema_within n (group fs) F w = schema_within n fs F w

pub schema_order_within : (fs : Fields) (F : List (List Step)) → All (λ (i : ℕ). i < length F) (schema_order fs F)
schema_order_within fs F = all_within (length F) (schema_order fs F) (schema_within (length F) fs (picks F) (picks_within (length F) 0 F (omega arith)))

-- ---- reading order

unless_within : (n : ℕ) (r : Repetition) (is : List ℕ) → Within n is → Within n (unless_repeated r is)
unless_within n required is w = w
unless_within n optional is w = w
unless_within n repeated is w = tt

where_within : (n : ℕ) (r : Repetition) (is : List ℕ) → Within n is → Within n (where_repeated r is)
where_within n required is w = tt
where_within n optional is w = tt
where_within n repeated is w = w

mutual
  near_within : (n : ℕ) (fs : Fields) (F : List Pick) → PicksWithin n F → Within n (near_order fs F)
  near_within n no_fields F w = tt
  near_within n (field m r s fs) F w =
      append_within n (unless_repeated r (shape_near_order s (first_picks F))) (near_order fs (later_picks F))
      (unless_within n r (shape_near_order s (first_picks F)) (shape_near_within n s (first_picks F) (behind_within n F w)))
      (near_within n fs (later_picks F) (beside_within n F w))

  shape_near_within : (n : ℕ) (s : Shape) (F : List Pick) → PicksWithin n F → Within n (shape_near_order s F)
  shape_near_within n (leaf k) F w = indexes_within n F w
  shape_near_within n (group fs) F w = near_within n fs F w

mutual
  far_within : (n : ℕ) (fs : Fields) (F : List Pick) → PicksWithin n F → Within n (far_order fs F)
  far_within n no_fields F w = tt
  far_within n (field m r s fs) F w =
      append_within n (where_repeated r (shape_near_order s (first_picks F)) ++ shape_far_order s (first_picks F)) (far_order fs (later_picks F))
      (append_within n (where_repeated r (shape_near_order s (first_picks F))) (shape_far_order s (first_picks F))
      (where_within n r (shape_near_order s (first_picks F)) (shape_near_within n s (first_picks F) (behind_within n F w)))
      (shape_far_within n s (first_picks F) (behind_within n F w)))
      (far_within n fs (later_picks F) (beside_within n F w))

  shape_far_within : (n : ℕ) (s : Shape) (F : List Pick) → PicksWithin n F → Within n (shape_far_order s F)
  shape_far_within n (leaf k) F w = tt
  shape_far_within n (group fs) F w = far_within n fs F w

pub reading_order_within : (fs : Fields) (F : List (List Step)) → All (λ (i : ℕ). i < length F) (reading_order fs F)
reading_order_within fs F =
    let w : PicksWithin (length F) (picks F) = picks_within (length F) 0 F (omega arith) in
    all_within (length F) (reading_order fs F) (append_within (length F) (near_order fs (picks F)) (far_order fs (picks F)) (near_within (length F) fs (picks F) w) (far_within (length F) fs (picks F) w))
