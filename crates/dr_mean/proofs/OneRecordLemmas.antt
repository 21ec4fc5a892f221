-- What is put of one record, and the aggregates of a plan.
use Rattle.std.specs.Prelude.{◌≡◌, ℕ, zero, suc, List, [], ◌∷◌, ◌++◌, map, length, true, ◌&&◌, nat_lt, Option, Some, None}
use Rattle.std.specs.List.{flat_map, filter_map, cons_option, slice_get}
use Rattle.std.proofs.Common.{refl, sym, ap, ap₂, ◌∙◌, arith, append-nil}
use Rattle.std.proofs.lemmas.Bool.{and_parts}
use Rattle.std.proofs.lemmas.List.{length-map}
use Rattle.std.proofs.lemmas.Bool.Decides.{nat_tests}
use Rattle.dr_meaning.specs.Path.{Step, Leaf, longer}
use Rattle.dr_meaning.specs.Record.{Node}
use Rattle.dr_meaning.specs.Rows.{rows}
use Rattle.dr_meaning.specs.Expression.{evaluate, expression_chain, longest_chain}
use Rattle.dr_meaning.specs.Kept.{kept}
use Rattle.dr_meaning.specs.Query.{GroupTerm, key, count_rows, aggregate, GroupItem, groups, objects, RecordItem, Selection, Levels, levels_of, selected, meaning, key_tuple}
use Rattle.dr_partials.specs.Partials.{lines, partial_of, selected_partial}
use Rattle.dr_partials.specs.PartialTypes.{aggregates_among, with_aggregate}
use Rattle.dr_partials.specs.Putting.{puts_of_selection, puts_of_terms, puts_of_rows, put}
use Rattle.dr_plan.specs.Fitting.{aggregate_number, are_numbered}
use Rattle.dr_plan.specs.Views.{aggregate_view, group_item_view, group_term_view, found_term}
use Rattle.dr_plan.specs.declared.aggregate.Aggregate.{Aggregate}
use Rattle.dr_plan.specs.declared.plan.GroupItem.{GroupItem as PlanItem}
use Rattle.dr_plan.specs.declared.plan.GroupTerm.{GroupTerm as PlanTerm}
use Rattle.dr_mean.specs.GroupLaws.{term_puts, record_puts, PutsOfOne, PutInParts, PlanAggregates, LinesAreResult}

-- ---- one record

rows_of_one : (p : List Step) (n : Node) → flat_map (rows p) (n ∷ []) ≡ rows p n
rows_of_one p n = append-nil (rows p n)

terms_of_one : (keys : List (List Step)) (i : ℕ) (ts : List GroupTerm) (n : Node) → puts_of_terms keys i ts (n ∷ []) ≡ term_puts keys i ts n
terms_of_one keys i [] n = refl
terms_of_one keys i (key j ∷ ts) n = terms_of_one keys (suc i) ts n
terms_of_one keys i (count_rows ∷ ts) n = ap₂ ◌++◌ (ap (puts_of_rows keys i (λ row. None)) (rows_of_one (longest_chain keys) n)) (terms_of_one keys (suc i) ts n)
terms_of_one keys i (aggregate a e ∷ ts) n =
    ap₂ ◌++◌ (ap (puts_of_rows keys i (evaluate e)) (rows_of_one (longer (longest_chain keys) (expression_chain e)) n)) (terms_of_one keys (suc i) ts n)

terms_of_none : (keys : List (List Step)) (i : ℕ) (ts : List GroupTerm) → puts_of_terms keys i ts [] ≡ []
terms_of_none keys i [] = refl
terms_of_none keys i (key j ∷ ts) = terms_of_none keys (suc i) ts
terms_of_none keys i (count_rows ∷ ts) = terms_of_none keys (suc i) ts
terms_of_none keys i (aggregate a e ∷ ts) = terms_of_none keys (suc i) ts

by_kept : (keys : List (List Step)) (items : List GroupItem) (o : Option Node) → puts_of_selection (groups keys items) (cons_option o []) ≡ record_puts keys (aggregates_among items) o
by_kept keys items None = terms_of_none keys 0 (aggregates_among items)
by_kept keys items (Some n) =
    ap₂ ◌++◌ (ap (map (λ (row : Node). record { keys = key_tuple keys row; taken = None })) (rows_of_one (longest_chain keys) n)) (terms_of_one keys 0 (aggregates_among items) n)

pub puts_of_one : PutsOfOne
puts_of_one c keys items n = by_kept keys items (kept c n)

pub put_in_parts : PutInParts
put_in_parts q [] rs p = refl
put_in_parts q (x ∷ ps) rs p = put_in_parts q ps rs (put q x p)

-- ---- the aggregates of a plan

-- a term that is no key
not_key : (ls : List Leaf) (aggregates : List Aggregate) (a : ℕ) (ts : List GroupTerm)
    → with_aggregate (found_term (slice_get (map (aggregate_view ls) aggregates) a)) ts ≡ found_term (slice_get (map (aggregate_view ls) aggregates) a) ∷ ts
not_key ls [] a ts = refl
not_key ls (Aggregate.Rows ∷ bs) zero ts = refl
not_key ls (Aggregate.Of f e ∷ bs) zero ts = refl
not_key ls (b ∷ bs) (suc a) ts = not_key ls bs a ts

terms_by_number : (ls : List Leaf) (aggregates : List Aggregate) (items : List PlanItem)
    → aggregates_among (map (group_item_view (map (aggregate_view ls) aggregates)) items)
    ≡ map (λ a. found_term (slice_get (map (aggregate_view ls) aggregates) a)) (filter_map (λ (i : PlanItem). aggregate_number i.term) items)
terms_by_number ls aggregates [] = refl
terms_by_number ls aggregates (i ∷ is) = by_term i.term (terms_by_number ls aggregates is)
  where
    by_term : (t : PlanTerm) → aggregates_among (map (group_item_view (map (aggregate_view ls) aggregates)) is) ≡ map (λ a. found_term (slice_get (map (aggregate_view ls) aggregates) a)) (filter_map (λ (j : PlanItem). aggregate_number j.term) is)
        → with_aggregate (group_term_view (map (aggregate_view ls) aggregates) t) (aggregates_among (map (group_item_view (map (aggregate_view ls) aggregates)) is))
        ≡ map (λ a. found_term (slice_get (map (aggregate_view ls) aggregates) a)) (cons_option (aggregate_number t) (filter_map (λ (j : PlanItem). aggregate_number j.term) is))
    by_term (PlanTerm.Key k) r = r
    by_term (PlanTerm.Aggregate a) r =
        not_key ls aggregates a (aggregates_among (map (group_item_view (map (aggregate_view ls) aggregates)) is))
        ∙ ap (λ (ts : List GroupTerm). found_term (slice_get (map (aggregate_view ls) aggregates) a) ∷ ts) r

same_number : (i j : ℕ) → nat_lt i (suc j) ≡ true → nat_lt j (suc i) ≡ true → j ≡ i
same_number i j h g = grind (arith, nat_tests)

-- the terms of so many numbers in order, behind those before
in_order : (done ts : List GroupTerm) (i : ℕ) (js : List ℕ) → length done ≡ i → are_numbered i js (length ts) ≡ true → map (λ a. found_term (slice_get (done ++ ts) a)) js ≡ ts
in_order done [] i [] l h = refl
in_order done (t ∷ ts) i [] l h = cc
in_order done [] i (j ∷ js) l h = cc
in_order done (t ∷ ts) i (j ∷ js) l h =
    let b : ((nat_lt i (suc j) && nat_lt j (suc i)) ≡ true) × (are_numbered (suc i) js (length ts) ≡ true) = and_parts _ _ h in
    let d : (nat_lt i (suc j) ≡ true) × (nat_lt j (suc i) ≡ true) = and_parts _ _ b.0 in
    let e : j ≡ length done = same_number i j d.0 d.1 ∙ sym l in
    ap₂ (λ (x : GroupTerm) (xs : List GroupTerm). x ∷ xs) (ap (λ (k : ℕ). found_term (slice_get (done ++ t ∷ ts) k)) e ∙ ap found_term (here done t ts))
    (ap (λ (xs : List GroupTerm). map (λ a. found_term (slice_get xs a)) js) (behind done t ts) ∙ in_order (done ++ t ∷ []) ts (suc i) js (one_longer done t i l) b.1)
  where
    here : (xs : List GroupTerm) (x : GroupTerm) (ys : List GroupTerm) → slice_get (xs ++ x ∷ ys) (length xs) ≡ Some x
    here [] x ys = refl
    here (z ∷ xs) x ys = here xs x ys

    behind : (xs : List GroupTerm) (x : GroupTerm) (ys : List GroupTerm) → xs ++ x ∷ ys ≡ (xs ++ x ∷ []) ++ ys
    behind [] x ys = refl
    behind (z ∷ xs) x ys = ap (λ (zs : List GroupTerm). z ∷ zs) (behind xs x ys)

    one_longer : (xs : List GroupTerm) (x : GroupTerm) (n : ℕ) → length xs ≡ n → length (xs ++ x ∷ []) ≡ suc n
    one_longer [] x n e = omega arith
    one_longer (z ∷ xs) x zero e = absurd (omega arith)
    one_longer (z ∷ xs) x (suc n) e = ap (λ (k : ℕ). suc k) (one_longer xs x n (omega arith))

pub plan_aggregates : PlanAggregates
plan_aggregates ls aggregates items h =
    let n : length (map (aggregate_view ls) aggregates) ≡ length aggregates = length-map aggregates (aggregate_view ls) in
    terms_by_number ls aggregates items
    ∙ in_order [] (map (aggregate_view ls) aggregates) 0 (filter_map (λ (i : PlanItem). aggregate_number i.term) items) refl (ap (are_numbered 0 (filter_map (λ (i : PlanItem). aggregate_number i.term) items)) n ∙ h)

-- ---- record queries

-- lines of a record query
by_selection : (s : Selection) (ls : Levels) (items : List RecordItem) (ns : List Node) → s ≡ objects items → selected_partial s ls ns ≡ lines (selected s ls ns)
by_selection s ls items ns e =
    ap (λ (x : Selection). selected_partial x ls ns) e ∙ ap (λ (x : Selection). lines (selected x ls ns)) (sym e)

pub lines_are_result : LinesAreResult
unfolding partial_of meaning
lines_are_result fs q items R e = by_selection q.selection (levels_of fs) items (filter_map (kept q.condition) R) e
