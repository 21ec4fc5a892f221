-- A group's fields, from one on.
use Rattle.std.proofs.Common.{◌≡◌, ℕ, zero, suc, ◌+◌, ◌<◌, ◌≤◌, max, List, [], ◌∷◌, length, get_or, drop, refl, sym, ap, ◌∙◌, arith}
use Rattle.std.proofs.lemmas.List.{drop_all, drop_more}
use Rattle.dr_meaning.specs.Schema.{depth, shape_depth, repeated_fields, shape_repeated_fields, repetition_count}
use Rattle.dr_meaning.specs.Automaton.{Pick, first_picks, later_picks}
use Rattle.dr_levels.specs.Orders.{picks_at}
use Rattle.dr_levels.proofs.OrderLemmas.{shifted}
use Rattle.dr_nested.specs.declared.shape.Field.{Field}
use Rattle.dr_nested.specs.Views.{rep_view, shape_view, fields_view}
use Rattle.dr_nested.proofs.ViewLemmas.{view-field}
use Rattle.dr_moves.specs.Course.{Gate, Items, followed_by, unless_repeated, where_selected, near_items, far_items, field_near_items}
use Rattle.dr_walk.specs.Laying.{Laid, lay}
use Rattle.dr_walk.specs.Flat.{far_of_field}
use Rattle.dr_walk.specs.declared.laying.Depth.{Depth}
use Rattle.dr_walk.proofs.FlatLemmas.{lay_followed}
use Rattle.dr_walk.proofs.PickLemmas.{behind_field}

-- the field at a place, before the later ones
pub from_field : (fs : List Field) (k : ℕ) (f : Field) → k < length fs → f ≡ get_or fs k f → drop k fs ≡ f ∷ drop (k + 1) fs
from_field fs k f more here = drop_more fs k f more ∙ ap (λ (g : Field). g ∷ drop (k + 1) fs) (sym here)

abbrev pub fields_in : Field → ℕ
fields_in f = repetition_count (rep_view f.rep) + shape_repeated_fields (shape_view f.shape)

count_first : (f : Field) (fs : List Field) → repeated_fields (fields_view (f ∷ fs)) ≡ fields_in f + repeated_fields (fields_view fs)
count_first f fs = rw (view-field f) refl

pub count_from : (fs : List Field) (k : ℕ) (f : Field) → k < length fs → f ≡ get_or fs k f → repeated_fields (fields_view (drop k fs)) ≡ fields_in f + repeated_fields (fields_view (drop (k + 1) fs))
count_from fs k f more here = ap (λ (gs : List Field). repeated_fields (fields_view gs)) (from_field fs k f more here) ∙ count_first f (drop (k + 1) fs)

depth_first : (f : Field) (fs : List Field) → depth (fields_view (f ∷ fs)) ≡ max (1 + shape_depth (shape_view f.shape)) (depth (fields_view fs))
depth_first f fs = rw (view-field f) refl

depth_drop : (fs : List Field) (k : ℕ) → depth (fields_view (drop k fs)) ≤ depth (fields_view fs)
depth_drop [] zero = omega arith
depth_drop [] (suc k) = omega arith
depth_drop (f ∷ fs) zero = omega arith
depth_drop (f ∷ fs) (suc k) = let e = depth_first f fs in let l = depth_drop fs k in omega (arith, e, l)

pub depth_at : (fs : List Field) (k : ℕ) (f : Field) → k < length fs → f ≡ get_or fs k f → 1 + shape_depth (shape_view f.shape) ≤ depth (fields_view fs)
depth_at fs k f more here =
    let e : depth (fields_view (drop k fs)) ≡ max (1 + shape_depth (shape_view f.shape)) (depth (fields_view (drop (k + 1) fs))) =
    ap (λ (gs : List Field). depth (fields_view gs)) (from_field fs k f more here) ∙ depth_first f (drop (k + 1) fs) in
    let l = depth_drop fs k in
    omega (arith, e, l)

-- ---- the leaves of a level

abbrev pub near_of : Field → List Pick → List Gate → ℕ → Items
near_of f F G d = unless_repeated (rep_view f.rep) (field_near_items (rep_view f.rep) (shape_view f.shape) F G d)

near_first : (f : Field) (fs : List Field) (F : List Pick) (G : List Gate) (d : ℕ) → near_items (fields_view (f ∷ fs)) F G d ≡ followed_by (near_of f (first_picks F) G d) (near_items (fields_view fs) (later_picks F) G d)
near_first f fs F G d = rw (view-field f) refl

suc_shifted : (k : ℕ) (F : List Pick) → shifted (k + 1) F ≡ later_picks (shifted k F)
suc_shifted k F = let e : k + 1 ≡ suc k = omega arith in ap (λ (j : ℕ). shifted j F) e

pub near_next : (fs : List Field) (k : ℕ) (f : Field) (F : List Pick) (G : List Gate) (d : ℕ) (s t : Laid) → k < length fs → f ≡ get_or fs k f → t ≡ lay (near_of f (picks_at k F) G d) s
    → lay (near_items (fields_view (drop (k + 1) fs)) (shifted (k + 1) F) G d) t ≡ lay (near_items (fields_view (drop k fs)) (shifted k F) G d) s
near_next fs k f F G d s t more here e =
    ap (λ (E : List Pick). lay (near_items (fields_view (drop (k + 1) fs)) E G d) t) (suc_shifted k F)
    ∙ ap (lay (near_items (fields_view (drop (k + 1) fs)) (later_picks (shifted k F)) G d)) (e ∙ ap (λ (E : List Pick). lay (near_of f E G d) s) (sym (behind_field k F)))
    ∙ sym (lay_followed (near_of f (first_picks (shifted k F)) G d) (near_items (fields_view (drop (k + 1) fs)) (later_picks (shifted k F)) G d) s)
    ∙ ap (λ (I : Items). lay I s) (sym (near_first f (drop (k + 1) fs) (shifted k F) G d))
    ∙ ap (λ (gs : List Field). lay (near_items (fields_view gs) (shifted k F) G d) s) (sym (from_field fs k f more here))

pub near_last : (fs : List Field) (k : ℕ) (F : List Pick) (G : List Gate) (d : ℕ) (s : Laid) → length fs ≤ k → lay (near_items (fields_view (drop k fs)) (shifted k F) G d) s ≡ s
near_last fs k F G d s end = ap (λ (gs : List Field). lay (near_items (fields_view gs) (shifted k F) G d) s) (drop_all k fs end)

-- ---- its next repeated fields

abbrev pub far_of : Field → List Pick → Depth → List Gate → Items
far_of f F at G = where_selected F (far_of_field (rep_view f.rep) (shape_view f.shape) F at G)

-- behind a field
abbrev pub past : Field → Depth → Depth
past f at = record at { number = at.number + fields_in f }

far_first : (f : Field) (fs : List Field) (F : List Pick) (at : Depth) (G : List Gate) → far_items (fields_view (f ∷ fs)) F at.number at.level G at.definition
    ≡ followed_by (far_of f (first_picks F) at G) (far_items (fields_view fs) (later_picks F) (at.number + fields_in f) at.level G at.definition)
far_first f fs F at G = rw (view-field f) refl

pub far_next : (fs : List Field) (k : ℕ) (f : Field) (F : List Pick) (at : Depth) (G : List Gate) (s t : Laid) → k < length fs → f ≡ get_or fs k f → t ≡ lay (far_of f (picks_at k F) at G) s
    → lay (far_items (fields_view (drop (k + 1) fs)) (shifted (k + 1) F) (at.number + fields_in f) at.level G at.definition) t ≡ lay (far_items (fields_view (drop k fs)) (shifted k F) at.number at.level G at.definition) s
far_next fs k f F at G s t more here e =
    let n = at.number + fields_in f in
    ap (λ (E : List Pick). lay (far_items (fields_view (drop (k + 1) fs)) E n at.level G at.definition) t) (suc_shifted k F)
    ∙ ap (lay (far_items (fields_view (drop (k + 1) fs)) (later_picks (shifted k F)) n at.level G at.definition)) (e ∙ ap (λ (E : List Pick). lay (far_of f E at G) s) (sym (behind_field k F)))
    ∙ sym (lay_followed (far_of f (first_picks (shifted k F)) at G) (far_items (fields_view (drop (k + 1) fs)) (later_picks (shifted k F)) n at.level G at.definition) s)
    ∙ ap (λ (I : Items). lay I s) (sym (far_first f (drop (k + 1) fs) (shifted k F) at G))
    ∙ ap (λ (gs : List Field). lay (far_items (fields_view gs) (shifted k F) at.number at.level G at.definition) s) (sym (from_field fs k f more here))

pub far_last : (fs : List Field) (k : ℕ) (F : List Pick) (at : Depth) (G : List Gate) (s : Laid) → length fs ≤ k → lay (far_items (fields_view (drop k fs)) (shifted k F) at.number at.level G at.definition) s ≡ s
far_last fs k F at G s end = ap (λ (gs : List Field). lay (far_items (fields_view gs) (shifted k F) at.number at.level G at.definition) s) (drop_all k fs end)
