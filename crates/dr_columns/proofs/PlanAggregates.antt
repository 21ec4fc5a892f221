-- The aggregates among the items of a plan of groups are its aggregates, in order; they and its keys fit in it, and are related.
use Rattle.std.proofs.Common.{◌≡◌, ℕ, zero, suc, List, [], ◌∷◌, ◌++◌, map, length, true, ◌&&◌, Some, refl, sym, ap, ap₂, ◌∙◌, arith}
use Rattle.std.specs.Prelude.{nat_lt}
use Rattle.std.specs.List.{list_all, filter_map, cons_option, slice_get}
use Rattle.std.specs.declared.alloc.Global.{Global}
use Rattle.std.specs.declared.vec.Vec.{Vec}
use Rattle.std.proofs.lemmas.Bool.{and_parts}
use Rattle.std.proofs.lemmas.List.{length-map}
use Rattle.std.proofs.lemmas.Bool.Decides.{nat_tests}
use Rattle.dr_meaning.specs.Path.{Leaf}
use Rattle.dr_meaning.specs.Query.{GroupTerm}
use Rattle.dr_partials.specs.PartialTypes.{aggregates_among, with_aggregate}
use Rattle.dr_plan.specs.Fitting.{selection_fits, aggregate_fits, has_key, aggregate_number, are_numbered}
use Rattle.dr_plan.specs.Planned.{plan_leaves}
use Rattle.dr_plan.specs.Views.{aggregate_view, group_item_view, group_term_view, found_term}
use Rattle.dr_plan.specs.declared.aggregate.Aggregate.{Aggregate}
use Rattle.dr_plan.specs.declared.plan.GroupItem.{GroupItem}
use Rattle.dr_plan.specs.declared.plan.GroupTerm.{GroupTerm as PlanTerm}
use Rattle.dr_plan.specs.declared.plan.Plan.{Plan}
use Rattle.dr_plan.specs.declared.plan.Selection.{Selection}
use Rattle.dr_condition.proofs.LeavesBelow.{are_below}

-- ---- what fits in it

pub record GroupsFit (ls : List Leaf) (keys : List ℕ) (aggregates : List Aggregate) (items : List GroupItem) : Type 0 where
  pub keyed : are_below ls keys ≡ true
  pub fit : list_all (aggregate_fits ls) aggregates ≡ true
  pub numbered : are_numbered 0 (filter_map (λ (i : GroupItem). aggregate_number i.term) items) (length aggregates) ≡ true

pub groups_fit : (p : Plan) (keys : Vec ℕ Global) (aggregates : Vec Aggregate Global) (items : Vec GroupItem Global)
    → p.selection ≡ Selection.Groups keys aggregates items → GroupsFit (plan_leaves p) keys.items aggregates.items items.items
groups_fit p keys aggregates items h =
    let ls = plan_leaves p in
    let keyed = are_below ls keys.items in
    let fit = list_all (aggregate_fits ls) aggregates.items in
    let there = list_all (λ (i : GroupItem). has_key (length keys.items) i.term) items.items in
    let numbered = are_numbered 0 (filter_map (λ (i : GroupItem). aggregate_number i.term) items.items) (length aggregates.items) in
    let all : (keyed && fit && there && numbered) ≡ true = ap (selection_fits ls) (sym h) ∙ p.selected in
    let a : ((keyed && fit && there) ≡ true) × (numbered ≡ true) = and_parts _ _ all in
    let b : ((keyed && fit) ≡ true) × (there ≡ true) = and_parts _ _ a.0 in
    let c : (keyed ≡ true) × (fit ≡ true) = and_parts _ _ b.0 in
    record { keyed = c.0; fit = c.1; numbered = a.1 }

-- ---- the terms by their numbers

-- a term that is no key
not_key : (ls : List Leaf) (aggregates : List Aggregate) (a : ℕ) (ts : List GroupTerm)
    → with_aggregate (found_term (slice_get (map (aggregate_view ls) aggregates) a)) ts
    ≡ found_term (slice_get (map (aggregate_view ls) aggregates) a) ∷ ts
not_key ls [] a ts = refl
not_key ls (Aggregate.Rows ∷ bs) zero ts = refl
not_key ls (Aggregate.Of f e ∷ bs) zero ts = refl
not_key ls (b ∷ bs) (suc a) ts = not_key ls bs a ts

module _ (ls : List Leaf) (aggregates : List Aggregate) where
  abbrev term_of : ℕ → GroupTerm
  term_of a = found_term (slice_get (map (aggregate_view ls) aggregates) a)

  abbrev items_among : List GroupItem → List GroupTerm
  items_among items = aggregates_among (map (group_item_view (map (aggregate_view ls) aggregates)) items)

  abbrev numbers_among : List GroupItem → List ℕ
  numbers_among items = filter_map (λ (i : GroupItem). aggregate_number i.term) items

  terms_by_number : (items : List GroupItem) → items_among items ≡ map term_of (numbers_among items)
  terms_by_number [] = refl
  terms_by_number (i ∷ is) = by_term i.term (terms_by_number is)
    where
      by_term : (t : PlanTerm) → items_among is ≡ map term_of (numbers_among is)
          → with_aggregate (group_term_view (map (aggregate_view ls) aggregates) t) (items_among is)
          ≡ map term_of (cons_option (aggregate_number t) (numbers_among is))
      by_term (PlanTerm.Key k) r = r
      by_term (PlanTerm.Aggregate a) r =
          not_key ls aggregates a (items_among is) ∙ ap (λ (ts : List GroupTerm). term_of a ∷ ts) r

same_number : (i j : ℕ) → nat_lt i (suc j) ≡ true → nat_lt j (suc i) ≡ true → j ≡ i
same_number i j h g = grind (arith, nat_tests)

here : (xs : List GroupTerm) (x : GroupTerm) (ys : List GroupTerm) → slice_get (xs ++ x ∷ ys) (length xs) ≡ Some x
here [] x ys = refl
here (z ∷ xs) x ys = here xs x ys

behind : (xs : List GroupTerm) (x : GroupTerm) (ys : List GroupTerm) → xs ++ x ∷ ys ≡ (xs ++ x ∷ []) ++ ys
behind [] x ys = refl
behind (z ∷ xs) x ys = ap (λ (zs : List GroupTerm). z ∷ zs) (behind xs x ys)

one_longer : (xs : List GroupTerm) (x : GroupTerm) (n : ℕ) → length xs ≡ n → length (xs ++ x ∷ []) ≡ suc n
one_longer [] x n e = omega arith
one_longer (z ∷ xs) x zero e = absurd (omega arith)
one_longer (z ∷ xs) x (suc n) e = ap (λ (k : ℕ). suc k) (one_longer xs x n (omega arith))

-- the terms of so many numbers in order, behind those before
in_order : (done ts : List GroupTerm) (i : ℕ) (js : List ℕ) → length done ≡ i → are_numbered i js (length ts) ≡ true
    → map (λ a. found_term (slice_get (done ++ ts) a)) js ≡ ts
in_order done [] i [] l h = refl
in_order done (t ∷ ts) i [] l h = cc
in_order done [] i (j ∷ js) l h = cc
in_order done (t ∷ ts) i (j ∷ js) l h =
    let b : ((nat_lt i (suc j) && nat_lt j (suc i)) ≡ true) × (are_numbered (suc i) js (length ts) ≡ true) = and_parts _ _ h in
    let d : (nat_lt i (suc j) ≡ true) × (nat_lt j (suc i) ≡ true) = and_parts _ _ b.0 in
    let e : j ≡ length done = same_number i j d.0 d.1 ∙ sym l in
    ap₂ (λ (x : GroupTerm) (xs : List GroupTerm). x ∷ xs)
    (ap (λ (k : ℕ). found_term (slice_get (done ++ t ∷ ts) k)) e ∙ ap found_term (here done t ts))
    (ap (λ (xs : List GroupTerm). map (λ a. found_term (slice_get xs a)) js) (behind done t ts)
    ∙ in_order (done ++ t ∷ []) ts (suc i) js (one_longer done t i l) b.1)

pub plan_aggregates : (ls : List Leaf) (aggregates : List Aggregate) (items : List GroupItem)
    → are_numbered 0 (filter_map (λ (i : GroupItem). aggregate_number i.term) items) (length aggregates) ≡ true
    → aggregates_among (map (group_item_view (map (aggregate_view ls) aggregates)) items) ≡ map (aggregate_view ls) aggregates
plan_aggregates ls aggregates items h =
    let n : length (map (aggregate_view ls) aggregates) ≡ length aggregates = length-map aggregates (aggregate_view ls) in
    let js = filter_map (λ (i : GroupItem). aggregate_number i.term) items in
    terms_by_number ls aggregates items
    ∙ in_order [] (map (aggregate_view ls) aggregates) 0 js refl (ap (are_numbered 0 js) n ∙ h)
