-- The leaves of a course's items are those of its level, and of each visit those of its items.
use Rattle.std.proofs.Common.{◌≡◌, ℕ, suc, ◌+◌, List, [], ◌∷◌, ◌++◌, refl, sym, ap, ap₂, ◌∙◌, append_assoc, append-nil}
use Rattle.dr_meaning.specs.Schema.{Repetition, required, optional, repeated, Kind, Fields, no_fields, field, Shape, leaf, group, repetition_count, definition_count, shape_repeated_fields}
use Rattle.dr_meaning.specs.Path.{Step}
use Rattle.dr_meaning.specs.Automaton.{Pick, picks, first_picks, later_picks, indexes, near_order, far_order, shape_near_order, shape_far_order, unless_repeated as order_unless_repeated, where_repeated}
use Rattle.dr_moves.specs.Course.{Gate, Items, nothing, give, visit, followed_by, gated, low_in, give_each, unless_repeated, where_selected, by_repetition, visit_of, near_items, far_items, field_near_items, shape_near_items, shape_far_items, course}
use Rattle.dr_moves.proofs.GateLemmas.{no_shape_near_order, no_shape_far_order}
use Rattle.dr_walk.specs.Flat.{leaves_in}
use Rattle.dr_walk.proofs.FlatLemmas.{HasLeaves}

-- both of these, with their leaves
pub record Has (I : Items) (is : List ℕ) : Type 0 where
  pub leaves : leaves_in I ≡ is
  pub each : HasLeaves I

pub leaves_followed : (I J : Items) → leaves_in (followed_by I J) ≡ leaves_in I ++ leaves_in J
leaves_followed nothing J = refl
leaves_followed (give g I) J = ap (λ (xs : List ℕ). g.leaf ∷ xs) (leaves_followed I J)
leaves_followed (visit v B I) J = ap (λ (xs : List ℕ). v.leaves ++ xs) (leaves_followed I J) ∙ sym (append_assoc v.leaves (leaves_in I) (leaves_in J))

each_followed : (I J : Items) → HasLeaves I → HasLeaves J → HasLeaves (followed_by I J)
each_followed nothing J h k = k
each_followed (give g I) J h k = each_followed I J h k
each_followed (visit v B I) J h k = (h.0, h.1, each_followed I J h.2 k)

has_both : (I J : Items) (is js : List ℕ) → Has I is → Has J js → Has (followed_by I J) (is ++ js)
has_both I J is js h k = record { leaves = leaves_followed I J ∙ ap₂ (λ (xs ys : List ℕ). xs ++ ys) h.leaves k.leaves; each = each_followed I J h.each k.each }

has_gives : (k : Kind) (F : List Pick) (G : List Gate) (b d : ℕ) → Has (give_each k F G b d) (indexes F)
has_gives k [] G b d = record { leaves = refl; each = tt }
has_gives k (f ∷ F) G b d = let h = has_gives k F G b d in record { leaves = ap (λ (xs : List ℕ). f.index ∷ xs) h.leaves; each = h.each }

has_unless : (c : Repetition) (I : Items) (is : List ℕ) → Has I is → Has (unless_repeated c I) (order_unless_repeated c is)
has_unless required I is h = h
has_unless optional I is h = h
has_unless repeated I is h = record { leaves = refl; each = tt }

mutual
  pub has_near : (fs : Fields) (F : List Pick) (G : List Gate) (d : ℕ) → Has (near_items fs F G d) (near_order fs F)
  has_near no_fields F G d = record { leaves = refl; each = tt }
  has_near (field n c h fs) F G d = has_both (unless_repeated c (field_near_items c h (first_picks F) G d)) (near_items fs (later_picks F) G d) (order_unless_repeated c (shape_near_order h (first_picks F))) (near_order fs (later_picks F))
      (has_unless c (field_near_items c h (first_picks F) G d) (shape_near_order h (first_picks F)) (has_field_near c h (first_picks F) G d))
      (has_near fs (later_picks F) G d)

  has_field_near : (c : Repetition) (h : Shape) (F : List Pick) (G : List Gate) (d : ℕ) → Has (field_near_items c h F G d) (shape_near_order h F)
  has_field_near c (leaf k) F G d = has_gives k F G (low_in c d) (d + definition_count c)
  has_field_near c (group fs) F G d = has_near fs F (gated c F d G) (d + definition_count c)

pub has_shape_near : (h : Shape) (F : List Pick) (G : List Gate) (d : ℕ) → Has (shape_near_items h F G d) (shape_near_order h F)
has_shape_near (leaf k) F G d = has_gives k F G d d
has_shape_near (group fs) F G d = has_near fs F G d

abbrev ShapeHasFar : Shape → List Pick → Type 0
ShapeHasFar h F = (k l : ℕ) (G : List Gate) (d : ℕ) → Has (shape_far_items h F k l G d) (shape_far_order h F)

has_nothing : (is : List ℕ) → is ≡ [] → Has nothing is
has_nothing is e = record { leaves = sym e; each = tt }

has_field_far : (c : Repetition) (h : Shape) (F : List Pick) → ShapeHasFar h F → (k l : ℕ) (G : List Gate) (d : ℕ)
    → Has (where_selected F (by_repetition c
    (visit (visit_of h F k l G d) (followed_by (shape_near_items h F [] (d + definition_count c)) (shape_far_items h F (suc k) (l + repetition_count c) [] (d + definition_count c))) nothing)
    (shape_far_items h F k (l + repetition_count c) (gated c F d G) (d + definition_count c))))
    (where_repeated c (shape_near_order h F) ++ shape_far_order h F)
has_field_far required h [] f k l G d = has_nothing _ (no_shape_far_order h)
has_field_far optional h [] f k l G d = has_nothing _ (no_shape_far_order h)
has_field_far repeated h [] f k l G d = has_nothing _ (ap₂ (λ (xs ys : List ℕ). xs ++ ys) (no_shape_near_order h) (no_shape_far_order h))
has_field_far required h (p ∷ F) f k l G d = f k (l + 0) G (d + 0)
has_field_far optional h (p ∷ F) f k l G d = f k (l + 0) (gated optional (p ∷ F) d G) (d + 1)
has_field_far repeated h (p ∷ F) f k l G d =
    let b = has_both (shape_near_items h (p ∷ F) [] (d + 1)) (shape_far_items h (p ∷ F) (suc k) (l + 1) [] (d + 1)) (shape_near_order h (p ∷ F)) (shape_far_order h (p ∷ F))
    (has_shape_near h (p ∷ F) [] (d + 1)) (f (suc k) (l + 1) [] (d + 1)) in
    record { leaves = append-nil (shape_near_order h (p ∷ F) ++ shape_far_order h (p ∷ F)); each = (sym b.leaves, b.each, tt) }

mutual
  pub has_far : (fs : Fields) (F : List Pick) (k l : ℕ) (G : List Gate) (d : ℕ) → Has (far_items fs F k l G d) (far_order fs F)
  has_far no_fields F k l G d = record { leaves = refl; each = tt }
  has_far (field n c h fs) F k l G d = has_both _ (far_items fs (later_picks F) (k + (repetition_count c + shape_repeated_fields h)) l G d)
      (where_repeated c (shape_near_order h (first_picks F)) ++ shape_far_order h (first_picks F)) (far_order fs (later_picks F))
      (has_field_far c h (first_picks F) (has_shape_far h (first_picks F)) k l G d)
      (has_far fs (later_picks F) (k + (repetition_count c + shape_repeated_fields h)) l G d)

  pub has_shape_far : (h : Shape) (F : List Pick) → ShapeHasFar h F
  has_shape_far (leaf j) F k l G d = record { leaves = refl; each = tt }
  has_shape_far (group fs) F k l G d = has_far fs F k l G d

-- the course of a schema
pub course_has_leaves : (fs : Fields) (F : List (List Step)) → HasLeaves (course fs F)
course_has_leaves fs F = each_followed (near_items fs (picks F) [] 0) (far_items fs (picks F) 1 0 [] 0) (has_near fs (picks F) [] 0).each (has_far fs (picks F) 1 0 [] 0).each
