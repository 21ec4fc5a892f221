-- Binding queries over the results of others: the innermost to the table's schema, each other one to the result schema
-- of the one before it; or the first fault, that of an inner query before that of one over it.
use Rattle.std.specs.Prelude.{ℕ, List, [], ◌∷◌, Bool, ◌||◌, if◌then◌else◌, Option, Some, None, is_some, Result, Ok, Err}
use Rattle.std.specs.List.{slice_get, join_with_byte}
use Rattle.dr_meaning.specs.Schema.{Schema}
use Rattle.dr_meaning.specs.Query.{Selection, Query}
use Rattle.dr_meaning.specs.Syntax.{ItemSyntax}
use Rattle.dr_meaning.specs.BoundExpression.{BindFault}
use Rattle.dr_meaning.specs.Refusals.{bad_order, gives_no_records, bad_result_name, NestedFault, fault_in_query}
use Rattle.dr_meaning.specs.Binding.{bind}
use Rattle.dr_sub_meaning.specs.ResultFaults.{SubFault, not_records, result_name, result_schema}
use Rattle.dr_ordering.specs.Ordered.{Order, place_of_name, outermost_names}
use Rattle.dr_sub_meaning.specs.Nested.{NestedQuery}
use Rattle.dr_sub_meaning.specs.NestedParse.{OrderSyntax, PlacedQuery, NestedSyntax}

abbrev pub item_place : Option ItemSyntax → ℕ
item_place None = 0
item_place (Some i) = i.place

abbrev pub fault_of_result : PlacedQuery → SubFault → NestedFault
fault_of_result p not_records = record { place = p.place; problem = gives_no_records }
fault_of_result p (result_name i) = record { place = item_place (slice_get p.query.items i); problem = bad_result_name }

-- the item by which a result goes
abbrev pub order_at : OrderSyntax → Option ℕ → Result (Option Order) NestedFault
order_at o None = Err (record { place = o.path.place; problem = bad_order })
order_at o (Some i) = Ok (Some (record { item = i; descending = o.descending }))

abbrev pub bind_order : Selection → Option OrderSyntax → Result (Option Order) NestedFault
bind_order s None = Ok None
bind_order s (Some o) = order_at o (place_of_name (join_with_byte 46 o.path.names) (outermost_names s))

-- ---- the outermost query: first itself, then its order

abbrev pub in_an_order : PlacedQuery → Query → Result (Option Order) NestedFault → Result NestedQuery NestedFault
in_an_order p q (Ok o) = Ok (record { inner = []; outer = q; order = o; limit = p.limit })
in_an_order p q (Err f) = Err f

abbrev pub alone : PlacedQuery → Result Query BindFault → Result NestedQuery NestedFault
alone p (Ok q) = in_an_order p q (bind_order q.selection p.order)
alone p (Err f) = Err (fault_in_query f)

-- ---- an inner query: itself, its order, that it has neither order nor limit, its result; then those over it

-- a query below those that were bound over its result
abbrev pub below : Query → Result NestedQuery NestedFault → Result NestedQuery NestedFault
below q (Ok n) = Ok (record n { inner = q ∷ n.inner })
below q (Err f) = Err f

abbrev pub over_result : PlacedQuery → Query → (Schema → Result NestedQuery NestedFault) → Result Schema SubFault → Result NestedQuery NestedFault
over_result p q bind_others (Ok s) = below q (bind_others s)
over_result p q bind_others (Err f) = Err (fault_of_result p f)

-- whether a query is put in order or cut
abbrev pub is_arranged : PlacedQuery → Bool
is_arranged p = is_some p.order || is_some p.limit

abbrev pub over_plain : Bool → PlacedQuery → Result NestedQuery NestedFault → Result NestedQuery NestedFault
over_plain is_arranged p n = if is_arranged then Err (record { place = p.place; problem = gives_no_records }) else n

abbrev pub over_order : PlacedQuery → Result NestedQuery NestedFault → Result (Option Order) NestedFault → Result NestedQuery NestedFault
over_order p n (Ok o) = over_plain (is_arranged p) p n
over_order p n (Err f) = Err f

abbrev pub then_over : Schema → PlacedQuery → (Schema → Result NestedQuery NestedFault) → Result Query BindFault → Result NestedQuery NestedFault
then_over s p bind_others (Ok q) = over_order p (over_result p q bind_others (result_schema s.fields q)) (bind_order q.selection p.order)
then_over s p bind_others (Err f) = Err (fault_in_query f)

abbrev pub bind_from : List PlacedQuery → PlacedQuery → Schema → Result NestedQuery NestedFault
bind_from [] p s = alone p (bind s p.query)
bind_from (o ∷ os) p s = then_over s p (bind_from os o) (bind s p.query)

unfoldable pub bind_nested : Schema → NestedSyntax → Result NestedQuery NestedFault
bind_nested s n = bind_from n.others n.first s
