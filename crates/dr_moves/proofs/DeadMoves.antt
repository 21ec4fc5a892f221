-- The moves in what is absent: a NULL of each leaf, in reading order.
use Rattle.std.proofs.Common.{◌≡◌, ℕ, suc, ◌+◌, List, [], ◌∷◌, ◌++◌, None, refl, sym, ap}
use Rattle.dr_meaning.specs.Schema.{Repetition, required, optional, repeated, Fields, no_fields, field, Shape, leaf, group, repetition_count, shape_repeated_fields}
use Rattle.dr_meaning.specs.Record.{no_slots, no_instances}
use Rattle.dr_meaning.specs.Column.{triplet}
use Rattle.dr_meaning.specs.Automaton.{Pick, first_picks, later_picks, indexes, near_order, far_order, shape_near_order, shape_far_order, unless_repeated as order_unless_repeated, where_repeated}
use Rattle.dr_meaning.specs.Walk.{Move, value, Depth, inside, begun_later, triplet_moves, unless_repeated, repeated_moves, by_repetition, where_selected, moves_in, near_moves, far_moves, shape_near_moves, shape_far_moves}
use Rattle.dr_moves.proofs.Made.{nulls}
use Rattle.dr_moves.proofs.GateLemmas.{nulls_append, no_shape_near_order, no_shape_far_order}

pub triplet_nulls : (is : List ℕ) (r d : ℕ) → triplet_moves is (triplet r d None) ≡ nulls is r d
triplet_nulls [] r d = refl
triplet_nulls (i ∷ is) r d = ap (λ (x : List Move). value i (triplet r d None) ∷ x) (triplet_nulls is r d)

pub two_parts : (x y : List Move) (is js : List ℕ) (r d : ℕ) → x ≡ nulls is r d → y ≡ nulls js r d → x ++ y ≡ nulls (is ++ js) r d
two_parts x y is js r d p q = rw (p, q) (sym (nulls_append is js r d))

unless_part : (c : Repetition) (x : List Move) (is : List ℕ) (r d : ℕ) → x ≡ nulls is r d → unless_repeated c x ≡ nulls (order_unless_repeated c is) r d
unless_part required x is r d h = h
unless_part optional x is r d h = h
unless_part repeated x is r d h = refl

mutual
  pub near_in_absent : (fs : Fields) (F : List Pick) (at : Depth) → near_moves fs F at no_slots ≡ nulls (near_order fs F) at.repetition at.definition
  near_in_absent no_fields F at = refl
  near_in_absent (field n c h fs) F at = two_parts (unless_repeated c (shape_near_moves h (first_picks F) (inside c at None) None)) (near_moves fs (later_picks F) at no_slots)
      (order_unless_repeated c (shape_near_order h (first_picks F))) (near_order fs (later_picks F)) at.repetition at.definition
      (unless_part c (shape_near_moves h (first_picks F) (inside c at None) None) (shape_near_order h (first_picks F)) at.repetition at.definition (shape_near_in_absent h (first_picks F) (inside c at None)))
      (near_in_absent fs (later_picks F) at)

  pub shape_near_in_absent : (h : Shape) (F : List Pick) (at : Depth) → shape_near_moves h F at None ≡ nulls (shape_near_order h F) at.repetition at.definition
  shape_near_in_absent (leaf k) F at = triplet_nulls (indexes F) at.repetition at.definition
  shape_near_in_absent (group fs) F at = near_in_absent fs F at

abbrev ShapeAbsent : Shape → List Pick → Type 0
ShapeAbsent h F = (k : ℕ) (at : Depth) → shape_far_moves h F k at None ≡ nulls (shape_far_order h F) at.repetition at.definition

field_absent : (c : Repetition) (h : Shape) (B : List Pick) (k : ℕ) (at : Depth) → ShapeAbsent h B
    → where_selected B (by_repetition c (repeated_moves k (λ x. moves_in (shape_near_moves h B) (shape_far_moves h B (suc k)) (inside c at x) x) (λ x. moves_in (shape_near_moves h B) (shape_far_moves h B (suc k)) (inside c (begun_later at) x) x)) (λ x. shape_far_moves h B k (inside c at x) x) no_instances)
    ≡ nulls (where_repeated c (shape_near_order h B) ++ shape_far_order h B) at.repetition at.definition
field_absent required h [] k at f = rw (no_shape_far_order h) refl
field_absent optional h [] k at f = rw (no_shape_far_order h) refl
field_absent repeated h [] k at f = rw (no_shape_near_order h, no_shape_far_order h) refl
field_absent required h (p ∷ F) k at f = f k (inside required at None)
field_absent optional h (p ∷ F) k at f = f k (inside optional at None)
field_absent repeated h (p ∷ F) k at f = two_parts _ _ (shape_near_order h (p ∷ F)) (shape_far_order h (p ∷ F)) at.repetition at.definition (shape_near_in_absent h (p ∷ F) (inside repeated at None)) (f (suc k) (inside repeated at None))

mutual
  pub far_in_absent : (fs : Fields) (F : List Pick) (k : ℕ) (at : Depth) → far_moves fs F k at no_slots ≡ nulls (far_order fs F) at.repetition at.definition
  far_in_absent no_fields F k at = refl
  far_in_absent (field n c h fs) F k at = two_parts _ _ (where_repeated c (shape_near_order h (first_picks F)) ++ shape_far_order h (first_picks F)) (far_order fs (later_picks F)) at.repetition at.definition
      (field_absent c h (first_picks F) k at (shape_far_in_absent h (first_picks F)))
      (far_in_absent fs (later_picks F) (k + (repetition_count c + shape_repeated_fields h)) at)

  pub shape_far_in_absent : (h : Shape) (F : List Pick) → ShapeAbsent h F
  shape_far_in_absent (leaf j) F k at = refl
  shape_far_in_absent (group fs) F k at = far_in_absent fs F k at
