-- The rows of groups: their cells, by the items of a plan.
use Rattle.std.specs.Prelude.{◌≡◌, ℕ, zero, suc, List, [], ◌∷◌, ◌++◌, map, length, drop, Option}
use Rattle.std.specs.List.{slice_get}
use Rattle.std.proofs.Common.{refl, sym, ap, ap₂, ◌∙◌, subst, append-nil}
use Rattle.dr_meaning.specs.Path.{Leaf}
use Rattle.dr_meaning.specs.Record.{Value}
use Rattle.dr_meaning.specs.Query.{Object, GroupTerm, key, count_rows, aggregate, GroupItem}
use Rattle.dr_partials.specs.Accumulators.{Accumulator}
use Rattle.dr_partials.specs.Partials.{Group, group_row, item_value, behind_item}
use Rattle.dr_plan.specs.Views.{group_item_view, group_term_view, found_term, aggregate_view}
use Rattle.dr_plan.specs.declared.aggregate.Aggregate.{Aggregate}
use Rattle.dr_plan.specs.declared.plan.GroupItem.{GroupItem as ItemOfPlan}
use Rattle.dr_plan.specs.declared.plan.GroupTerm.{GroupTerm as TermOfPlan}
use Rattle.dr_cells.specs.Results.{ResultCell, value_cell, own_values, own_counts, inner_cells, object_cells, result_cells, ShapeTree, shape_tree, no_list_shapes, AllFitShape}
use Rattle.dr_cells.specs.Shapes.{row_shape}
use Rattle.dr_cells.specs.PlanShapes.{row_names}
use Rattle.dr_cells.proofs.ShapeLemmas.{group_rows_fit, row_names-views}
use Rattle.dr_group.specs.Finishing.{first_result, value_of_term, behind_term, row_cells, group_cells, all_row_cells}
use Rattle.dr_group.specs.Rows.{IsAggregate, AllAggregates, group_rows}

-- ---- aggregates are no keys

pub found_is : (ts : List GroupTerm) (n : ℕ) → AllAggregates ts → IsAggregate (found_term (slice_get ts n))
found_is [] n h = tt
found_is (t ∷ ts) zero h = h.0
found_is (t ∷ ts) (suc n) h = found_is ts n h.1

one_is : (ls : List Leaf) (a : Aggregate) → IsAggregate (aggregate_view ls a)
one_is ls Aggregate.Rows = tt
one_is ls (Aggregate.Of f e) = tt

pub views_are : (ls : List Leaf) (as_list : List Aggregate) → AllAggregates (map (aggregate_view ls) as_list)
views_are ls [] = tt
views_are ls (a ∷ as_list) = (one_is ls a, views_are ls as_list)

-- ---- one row

aggregate_value : (t : GroupTerm) (keys : List (Option Value)) (xs : List Accumulator) → IsAggregate t → item_value t keys xs ≡ first_result xs
aggregate_value (key i) keys xs h = absurd h
aggregate_value count_rows keys [] h = refl
aggregate_value count_rows keys (x ∷ xs) h = refl
aggregate_value (aggregate a e) keys [] h = refl
aggregate_value (aggregate a e) keys (x ∷ xs) h = refl

aggregate_behind : (t : GroupTerm) (xs : List Accumulator) → IsAggregate t → behind_item t xs ≡ drop 1 xs
aggregate_behind (key i) xs h = absurd h
aggregate_behind count_rows [] h = refl
aggregate_behind count_rows (x ∷ xs) h = refl
aggregate_behind (aggregate a e) [] h = refl
aggregate_behind (aggregate a e) (x ∷ xs) h = refl

term_value : (ts : List GroupTerm) (t : TermOfPlan) (keys : List (Option Value)) (xs : List Accumulator) → AllAggregates ts → item_value (group_term_view ts t) keys xs ≡ value_of_term t keys xs
term_value ts (TermOfPlan.Key k) keys xs h = refl
term_value ts (TermOfPlan.Aggregate a) keys xs h = aggregate_value (found_term (slice_get ts a)) keys xs (found_is ts a h)

term_behind : (ts : List GroupTerm) (t : TermOfPlan) (xs : List Accumulator) → AllAggregates ts → behind_item (group_term_view ts t) xs ≡ behind_term t xs
term_behind ts (TermOfPlan.Key k) xs h = refl
term_behind ts (TermOfPlan.Aggregate a) xs h = aggregate_behind (found_term (slice_get ts a)) xs (found_is ts a h)

row_values : (ts : List GroupTerm) (items : List ItemOfPlan) (keys : List (Option Value)) (xs : List Accumulator) → AllAggregates ts → own_values (group_row (map (group_item_view ts) items) keys xs) ≡ row_cells items keys xs
row_values ts [] keys xs h = refl
row_values ts (i ∷ items) keys xs h =
    ap₂ (λ (v : Option Value) (ys : List Accumulator). value_cell v ∷ own_values (group_row (map (group_item_view ts) items) keys ys)) (term_value ts i.term keys xs h) (term_behind ts i.term xs h)
    ∙ ap (λ (cs : List ResultCell). value_cell (value_of_term i.term keys xs) ∷ cs) (row_values ts items keys (behind_term i.term xs) h)

no_counts : (items : List GroupItem) (keys : List (Option Value)) (xs : List Accumulator) → own_counts (group_row items keys xs) ≡ []
no_counts [] keys xs = refl
no_counts (i ∷ items) keys xs = no_counts items keys (behind_item i.term xs)

no_inner : (items : List GroupItem) (keys : List (Option Value)) (xs : List Accumulator) → inner_cells (group_row items keys xs) ≡ []
no_inner [] keys xs = refl
no_inner (i ∷ items) keys xs = no_inner items keys (behind_item i.term xs)

cells_of_row : (ts : List GroupTerm) (items : List ItemOfPlan) (g : Group) → AllAggregates ts → object_cells (group_row (map (group_item_view ts) items) g.keys g.accumulators) ≡ group_cells items g
cells_of_row ts items g h =
    let row : Object = group_row (map (group_item_view ts) items) g.keys g.accumulators in
    ap₂ (λ (ks xs : List ResultCell). own_values row ++ (ks ++ xs)) (no_counts (map (group_item_view ts) items) g.keys g.accumulators) (no_inner (map (group_item_view ts) items) g.keys g.accumulators)
    ∙ append-nil (own_values row) ∙ row_values ts items g.keys g.accumulators h

-- ---- all rows

pub cells_of_rows : (ts : List GroupTerm) (items : List ItemOfPlan) (gs : List Group) → AllAggregates ts → all_row_cells items gs ≡ result_cells (group_rows ts items gs)
cells_of_rows ts items [] h = refl
cells_of_rows ts items (g ∷ gs) h = ap₂ (λ (xs ys : List ResultCell). xs ++ ys) (sym (cells_of_row ts items g h)) (cells_of_rows ts items gs h)

rows_fit : (items : List GroupItem) (gs : List Group) → AllFitShape (row_shape items) (map (λ (g : Group). group_row items g.keys g.accumulators) gs)
rows_fit items [] = tt
rows_fit items (g ∷ gs) = (group_rows_fit items g.keys g.accumulators, rows_fit items gs)

pub all_rows_fit : (ts : List GroupTerm) (items : List ItemOfPlan) (gs : List Group) (s : ShapeTree) → s ≡ shape_tree (row_names items) no_list_shapes → AllFitShape s (group_rows ts items gs)
all_rows_fit ts items gs s e =
    subst (λ (t : ShapeTree). AllFitShape t (group_rows ts items gs)) (ap (λ (ns : List (List ℕ)). shape_tree ns no_list_shapes) (row_names-views ts items) ∙ sym e) (rows_fit (map (group_item_view ts) items) gs)

pub rows_length : (ts : List GroupTerm) (items : List ItemOfPlan) (gs : List Group) → length (group_rows ts items gs) ≡ length gs
rows_length ts items [] = refl
rows_length ts items (g ∷ gs) = ap suc (rows_length ts items gs)
