-- The item by which a result goes is one of its objects' values.
use Rattle.std.proofs.Common.{◌≡◌, ◌∙◌, ◌<◌, ◌+◌, ℕ, suc, List, [], ◌∷◌, length, Bool, true, false, Option, Some, None, refl, sym, ap, subst, arith, IfSome}
use Rattle.std.specs.Prelude.{if◌then◌else◌, option_map}
use Rattle.std.specs.List.{slice_get}
use Rattle.dr_meaning.specs.Schema.{Schema, Fields}
use Rattle.dr_meaning.specs.Path.{same_path}
use Rattle.dr_meaning.specs.Query.{Query, RecordItem, Selection, objects, groups, term_chain}
use Rattle.dr_cells.specs.Rows.{rows_shape}
use Rattle.dr_cells.specs.Shapes.{with_name, names_at, names_of_items, selection_shape, plan_shape}
use Rattle.dr_cells.specs.declared.rows.RowsOut.{RowsOut}
use Rattle.dr_ordering.specs.Ordered.{Order, record_names, outermost_names}
use Rattle.dr_ordered.specs.Orders.{order_view}
use Rattle.dr_ordered.specs.Stretches.{value_count}
use Rattle.dr_ordered.specs.declared.results.Order.{Order as CodeOrder}
use Rattle.dr_plan.specs.Objects.{places_at}
use Rattle.dr_plan.specs.Planned.{plan_view, planned, objects_of_query}
use Rattle.dr_sub.specs.Texts.{ArePlansOf}
use Rattle.dr_sub.specs.declared.nested_plan.NestedPlan.{NestedPlan}
use Rattle.dr_sub_meaning.specs.Nested.{NestedQuery, outer_fields}
use Rattle.dr_stages.proofs.BoundLemmas.{orders_fit}
use Rattle.dr_stages.proofs.ResultLemmas.{outermost_planned}

-- ---- the names at the places of the items that stand in no list

at_zero : (n : ℕ) → n + 0 ≡ n
at_zero n = omega arith

no_shift : (n : ℕ) → 0 + n ≡ n
no_shift n = omega arith

one_later : (n k : ℕ) → suc n + k ≡ n + suc k
one_later n k = omega arith

-- from a place on, these are the names
abbrev NamesFrom : List (List ℕ) → ℕ → List RecordItem → Type 0
NamesFrom names n is = (k : ℕ) (m : List ℕ) → slice_get (names_of_items is) k ≡ Some m → slice_get names (n + k) ≡ Some m

names_left : (names : List (List ℕ)) (n : ℕ) (is : List RecordItem) → NamesFrom names n is → names_at names (places_at n is []) ≡ record_names is
names_left names n [] h = refl
names_left names n (i ∷ is) h = by_level (same_path [] (term_chain i.term)) (names_left names (suc n) is (λ k m e. ap (slice_get names) (one_later n k) ∙ h (suc k) m e))
  where
    here : slice_get names n ≡ Some i.name
    here = ap (slice_get names) (sym (at_zero n)) ∙ h 0 i.name refl

    by_level : (b : Bool) → names_at names (places_at (suc n) is []) ≡ record_names is
        → names_at names (if b then n ∷ places_at (suc n) is [] else places_at (suc n) is []) ≡ (if b then i.name ∷ record_names is else record_names is)
    by_level true e = ap (λ (o : Option (List ℕ)). with_name o (names_at names (places_at (suc n) is []))) here ∙ ap (λ (ns : List (List ℕ)). i.name ∷ ns) e
    by_level false e = e

-- ---- an object of a plan's result has a value for each name of the outermost object

counted_names : (fs : Fields) (z : Selection) → value_count (selection_shape z (objects_of_query fs z)) ≡ length (outermost_names z)
counted_names fs (objects items) = ap length (names_left (names_of_items items) 0 items (λ k m e. ap (slice_get (names_of_items items)) (no_shift k) ∙ e))
counted_names fs (groups keys items) = refl

counted_values : (fs : Fields) (q : Query) → value_count (plan_shape (planned fs q)) ≡ length (outermost_names q.selection)
unfolding plan_shape
counted_values fs q = counted_names fs q.selection

-- ---- so has the result

item_within : (o : Option CodeOrder) (m : Option Order) (k l : ℕ) → option_map order_view o ≡ m → k ≡ l → IfSome m (λ x. x.item < l) → IfSome o (λ x. x.item < k)
item_within None m k l e c f = tt
item_within (Some o) m k l e c f =
    let g : IfSome (Some (order_view o)) (λ x. x.item < l) = subst (λ (x : Option Order). IfSome x (λ y. y.item < l)) (sym e) f in
    subst (λ (z : ℕ). o.item < z) (sym c) g

pub order_within : (s : Schema) (n : NestedQuery) (p : NestedPlan) (r : RowsOut) → ArePlansOf s n p → rows_shape r ≡ plan_shape (plan_view p.outer) → IfSome p.order (λ o. o.item < value_count (rows_shape r))
order_within s n p r h e =
    let counted = ap value_count (e ∙ ap plan_shape (outermost_planned s n p h)) ∙ counted_values (outer_fields s.fields n) n.outer in
    item_within p.order n.order (value_count (rows_shape r)) (length (outermost_names n.outer.selection)) h.3.order counted (orders_fit s n p h)
