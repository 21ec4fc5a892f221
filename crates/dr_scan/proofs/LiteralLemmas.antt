-- Literals that a plan sums are of 64 bits.
use Rattle.std.proofs.Common.{◌≡◌, ℕ, zero, suc, List, [], ◌∷◌, map, Bool, true, ◌&&◌, refl, sym, ap, ap₂, subst, ◌∙◌, true≢false}
use Rattle.std.specs.List.{list_all, slice_get}
use Rattle.std.proofs.lemmas.Bool.{and_parts}
use Rattle.dr_meaning.specs.Path.{Leaf}
use Rattle.dr_meaning.specs.Expression.{Expression}
use Rattle.dr_meaning.specs.Query as meant
use Rattle.dr_partials.specs.Few.{is_small, term_is_small, sums_are_small}
use Rattle.dr_plan.specs.Fitting.{number_fits, number_fits_step, expr_fits, is_summed, aggregate_fits}
use Rattle.dr_plan.specs.Planned.{plan_leaves}
use Rattle.dr_plan.specs.Views.{number_view, number_step, aggregate_view, found_term, group_term_view, group_item_view, selection_view}
use Rattle.dr_plan.specs.declared.expression.Number as numbers
use Rattle.dr_plan.specs.declared.expression.Number.{Number}
use Rattle.dr_plan.specs.declared.expression.Number.TheOpen.{Number-F}
use Rattle.dr_plan.specs.declared.expression.Number.TheFolds as number_folds
use Rattle.dr_plan.specs.declared.expression.Expr.{Expr}
use Rattle.dr_plan.specs.declared.aggregate.Fold.{Fold}
use Rattle.dr_plan.specs.declared.aggregate.Aggregate.{Aggregate}
use Rattle.dr_plan.specs.declared.plan.GroupTerm.{GroupTerm}
use Rattle.dr_plan.specs.declared.plan.GroupItem.{GroupItem}
use Rattle.dr_plan.specs.declared.plan.Selection.{Selection}
use Rattle.dr_plan.specs.declared.plan.Plan.{Plan}
use Rattle.dr_within.proofs.PlanAggregates.{groups_fit}

-- ---- a number

abbrev NumberSmall : List Leaf → Number → Type 0
NumberSmall ls n = number_fits ls n ≡ true → is_small (number_view ls n) ≡ true

-- a number's node
abbrev NumberNode : List Leaf → Type 0
NumberNode ls = Number-F ((n : Number) × NumberSmall ls n)

abbrev bare_number : (ls : List Leaf) → NumberNode ls → Number-F Number
bare_number ls y = number_folds.map-Number ((n : Number) × NumberSmall ls n) Number (λ e. e.0) y

number_node : (ls : List Leaf) (y : NumberNode ls) → number_fits_step ls (number_folds.map-Number Number Bool (number_fits ls) (bare_number ls y)) ≡ true
    → is_small (number_step ls (number_folds.map-Number Number Expression (number_view ls) (bare_number ls y))) ≡ true
number_node ls (Number-F.Literal z) h = h
number_node ls (Number-F.Leaf i) h = refl
number_node ls (Number-F.Negative a) h = refl
number_node ls (Number-F.Add a b) h = refl
number_node ls (Number-F.Subtract a b) h = refl
number_node ls (Number-F.Multiply a b) h = refl

number_rolled : (ls : List Leaf) (y : NumberNode ls) → NumberSmall ls (numbers.roll-Number (bare_number ls y))
number_rolled ls y h =
    let x = bare_number ls y in
    ap is_small (number_folds.fold-roll-Number Expression (number_step ls) x)
    ∙ number_node ls y (sym (number_folds.fold-roll-Number Bool (number_fits_step ls) x) ∙ h)

number_small : (ls : List Leaf) (n : Number) → NumberSmall ls n
number_small ls = number_folds.ind-Number (NumberSmall ls) (λ x y is. subst (λ z. NumberSmall ls (numbers.roll-Number z)) is (number_rolled ls y))

-- ---- an aggregate: only numbers are summed

summed_small : (ls : List Leaf) (e : Expr) → (expr_fits ls e && is_summed Fold.Sum e) ≡ true → term_is_small (aggregate_view ls (Aggregate.Of Fold.Sum e)) ≡ true
summed_small ls (Expr.Truth a) h = absurd (true≢false (sym (and_parts _ _ h).1))
summed_small ls (Expr.Number a) h = number_small ls a (and_parts _ _ h).0
summed_small ls (Expr.Text a) h = absurd (true≢false (sym (and_parts _ _ h).1))

aggregate_small : (ls : List Leaf) (a : Aggregate) → aggregate_fits ls a ≡ true → term_is_small (aggregate_view ls a) ≡ true
aggregate_small ls Aggregate.Rows h = refl
aggregate_small ls (Aggregate.Of Fold.Count e) h = refl
aggregate_small ls (Aggregate.Of Fold.Sum e) h = summed_small ls e h
aggregate_small ls (Aggregate.Of Fold.Least e) h = refl
aggregate_small ls (Aggregate.Of Fold.Greatest e) h = refl

all_small : (ls : List Leaf) (xs : List Aggregate) → list_all (aggregate_fits ls) xs ≡ true → list_all term_is_small (map (aggregate_view ls) xs) ≡ true
all_small ls [] h = refl
all_small ls (x ∷ xs) h =
    let a = and_parts (aggregate_fits ls x) (list_all (aggregate_fits ls) xs) h in
    ap₂ (λ u v. u && v) (aggregate_small ls x a.0) (all_small ls xs a.1)

-- ---- a plan

found_small : (ts : List meant.GroupTerm) (i : ℕ) → list_all term_is_small ts ≡ true → term_is_small (found_term (slice_get ts i)) ≡ true
found_small [] i h = refl
found_small (t ∷ ts) zero h = (and_parts (term_is_small t) (list_all term_is_small ts) h).0
found_small (t ∷ ts) (suc i) h = found_small ts i (and_parts (term_is_small t) (list_all term_is_small ts) h).1

term_small : (ts : List meant.GroupTerm) (t : GroupTerm) → list_all term_is_small ts ≡ true → term_is_small (group_term_view ts t) ≡ true
term_small ts (GroupTerm.Key k) h = refl
term_small ts (GroupTerm.Aggregate a) h = found_small ts a h

items_small : (ts : List meant.GroupTerm) (items : List GroupItem) → list_all term_is_small ts ≡ true → list_all (λ (i : meant.GroupItem). term_is_small i.term) (map (group_item_view ts) items) ≡ true
items_small ts [] h = refl
items_small ts (i ∷ items) h = ap₂ (λ u v. u && v) (term_small ts i.term h) (items_small ts items h)

selection_small : (p : Plan) (s : Selection) → p.selection ≡ s → sums_are_small (selection_view (plan_leaves p) p.selection) ≡ true
selection_small p (Selection.Objects items o) e = ap (λ (s : Selection). sums_are_small (selection_view (plan_leaves p) s)) e
selection_small p (Selection.Groups keys aggregates items) e =
    let ls = plan_leaves p in
    ap (λ (s : Selection). sums_are_small (selection_view ls s)) e
    ∙ items_small (map (aggregate_view ls) aggregates.items) items.items (all_small ls aggregates.items (groups_fit p keys aggregates items e).fit)

pub sums_small : (p : Plan) → sums_are_small (selection_view (plan_leaves p) p.selection) ≡ true
sums_small p = selection_small p p.selection refl
