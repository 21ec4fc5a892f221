-- Plans of queries that are bound one over another.
use Rattle.std.proofs.Common.{◌≡◌, ◌∙◌, ◌<◌, ℕ, zero, suc, List, [], ◌∷◌, length, map, drop, Bool, true, false, ◌&&◌, Option, Some, None, refl, sym, ap, subst, arith, IfSome}
use Rattle.std.specs.Prelude.{Result, Ok, Err, bytes_eq, if◌then◌else◌, option_map}
use Rattle.std.specs.List.{list_all, join_with_byte}
use Rattle.std.proofs.lemmas.Bool.{and_parts}
use Rattle.dr_meaning.specs.Schema.{Schema, Fields, is_schema}
use Rattle.dr_meaning.specs.Query.{Query, Selection}
use Rattle.dr_meaning.specs.BoundExpression.{BindFault}
use Rattle.dr_meaning.specs.Binding.{bind}
use Rattle.dr_meaning.specs.Refusals.{NestedFault}
use Rattle.dr_ordering.specs.Ordered.{Order, place_of_name, outermost_names}
use Rattle.dr_plan.specs.Planned.{plan_view, planned}
use Rattle.dr_plan.specs.declared.plan.Plan.{Plan}
use Rattle.dr_sub.specs.NestedPlans.{PlansThrough}
use Rattle.dr_sub.specs.ResultSchemas.{IsBoundTo}
use Rattle.dr_sub_meaning.specs.Nested.{NestedQuery}
use Rattle.dr_sub_meaning.specs.NestedParse.{OrderSyntax, PlacedQuery}
use Rattle.dr_sub_meaning.specs.NestedBinding.{bind_order, order_at, in_an_order, alone, below, over_result, then_over, bind_from, bind_nested}
use Rattle.dr_sub_meaning.specs.ResultFaults.{SubFault, result_schema}
use Rattle.dr_sub_meaning.specs.ResultRecords.{result_fields}
use Rattle.dr_sub_meaning.specs.ResultSchemaLaws.{has_items}
use Rattle.dr_sub_meaning.proofs.BoundSchemaLemmas.{result_is_schema}
use Rattle.dr_sub_meaning.proofs.ParsedItems.{ordered_over}
use Rattle.dr_stages.specs.Stages.{AreBound, PlansAreBound, OrdersFit}
use Rattle.dr_stages.proofs.StageLemmas.{fields_named}

-- what is bound has such plans
abbrev Bound : Schema → List Plan → Plan → NestedQuery → Type 0
Bound s ps o n = PlansThrough s.fields ps o n.inner n.outer → AreBound s ps o n.inner n.outer

-- a SELECT of a text over a schema
record IsSelect (s : Schema) (p : PlacedQuery) : Type 0 where
  schema : is_schema s ≡ true
  items : has_items p.query ≡ true

alone_plans : (s : Schema) (p : PlacedQuery) (q : Query) (ps : List Plan) (o : Plan) → IsSelect s p → bind s p.query ≡ Ok q → PlansThrough s.fields ps o [] q → AreBound s ps o [] q
alone_plans s p q [] o x b h = record { syntax = p.query; schema = x.schema; items = x.items; bound = b; plan = h }
alone_plans s p q (r ∷ ps) o x b h = h

arranged_bound : (s : Schema) (p : PlacedQuery) (q : Query) (a : Result (Option Order) NestedFault) (n : NestedQuery) (ps : List Plan) (o : Plan) → IsSelect s p → bind s p.query ≡ Ok q → in_an_order p q a ≡ Ok n → Bound s ps o n
arranged_bound s p q (Ok a) n ps o x b e =
    let k : record { inner = []; outer = q; order = a; limit = p.limit } ≡ n = cc in
    subst (Bound s ps o) k (alone_plans s p q ps o x b)
arranged_bound s p q (Err f) n ps o x b e = absurd (cc)

alone_bound : (s : Schema) (p : PlacedQuery) (r : Result Query BindFault) (n : NestedQuery) (ps : List Plan) (o : Plan) → IsSelect s p → bind s p.query ≡ r → alone p r ≡ Ok n → Bound s ps o n
alone_bound s p (Ok q) n ps o x b e = arranged_bound s p q (bind_order q.selection p.order) n ps o x b e
alone_bound s p (Err f) n ps o x b e = absurd (cc)

-- a query below those that are bound over its result
below_plans : (s t : Schema) (p : PlacedQuery) (q : Query) (c : NestedQuery) (ps : List Plan) (o : Plan) → IsSelect s p → bind s p.query ≡ Ok q → result_schema s.fields q ≡ Ok t
    → ((qs : List Plan) → is_schema t ≡ true → Bound t qs o c) → PlansThrough s.fields ps o (q ∷ c.inner) c.outer → AreBound s ps o (q ∷ c.inner) c.outer
below_plans s t p q c [] o x b u g h = h
below_plans s t p q c (r ∷ ps) o x b u g h = (
  record { syntax = p.query; schema = x.schema; items = x.items; bound = b; plan = h.0 },
  (t, u, g ps (result_is_schema s p.query q t x.schema x.items b u) (subst (λ (fs : Fields). PlansThrough fs ps o c.inner c.outer) (fields_named s t q u) h.1)),
)

below_bound : (s t : Schema) (p : PlacedQuery) (q : Query) (r : Result NestedQuery NestedFault) (n : NestedQuery) (ps : List Plan) (o : Plan) → IsSelect s p → bind s p.query ≡ Ok q → result_schema s.fields q ≡ Ok t
    → ((c : NestedQuery) (qs : List Plan) → is_schema t ≡ true → r ≡ Ok c → Bound t qs o c) → below q r ≡ Ok n → Bound s ps o n
below_bound s t p q (Err f) n ps o x b u g e = absurd (cc)
below_bound s t p q (Ok c) n ps o x b u g e =
    let k : record c { inner = q ∷ c.inner } ≡ n = cc in
    subst (Bound s ps o) k (below_plans s t p q c ps o x b u (λ qs i. g c qs i refl))

over_bound : (s : Schema) (p : PlacedQuery) (q : Query) (next : Schema → Result NestedQuery NestedFault) (r : Result Schema SubFault) (n : NestedQuery) (ps : List Plan) (o : Plan) → IsSelect s p → bind s p.query ≡ Ok q
    → result_schema s.fields q ≡ r → ((t : Schema) (c : NestedQuery) (qs : List Plan) → is_schema t ≡ true → next t ≡ Ok c → Bound t qs o c) → over_result p q next r ≡ Ok n → Bound s ps o n
over_bound s p q next (Err f) n ps o x b u g e = absurd (cc)
over_bound s p q next (Ok t) n ps o x b u g e = below_bound s t p q (next t) n ps o x b u (g t) e

then_bound : (s : Schema) (p : PlacedQuery) (next : Schema → Result NestedQuery NestedFault) (r : Result Query BindFault) (n : NestedQuery) (ps : List Plan) (o : Plan) → IsSelect s p → bind s p.query ≡ r
    → ((t : Schema) (c : NestedQuery) (qs : List Plan) → is_schema t ≡ true → next t ≡ Ok c → Bound t qs o c) → then_over s p next r ≡ Ok n → Bound s ps o n
then_bound s p next (Err f) n ps o x b g e = absurd (cc)
then_bound s p next (Ok q) n ps o x b g e =
    over_bound s p q next (result_schema s.fields q) n ps o x b refl g (ordered_over p (over_result p q next (result_schema s.fields q)) (bind_order q.selection p.order) n e)

from_bound : (os : List PlacedQuery) (p : PlacedQuery) (s : Schema) (n : NestedQuery) (ps : List Plan) (o : Plan) → is_schema s ≡ true → has_items p.query ≡ true
    → list_all (λ (z : PlacedQuery). has_items z.query) os ≡ true → bind_from os p s ≡ Ok n → PlansThrough s.fields ps o n.inner n.outer → AreBound s ps o n.inner n.outer
from_bound [] p s n ps o i h hs e = alone_bound s p (bind s p.query) n ps o (record { schema = i; items = h }) refl e
from_bound (z ∷ os) p s n ps o i h hs e =
    let k = and_parts _ _ hs in
    then_bound s p (bind_from os z) (bind s p.query) n ps o (record { schema = i; items = h }) refl (λ t c qs j f. from_bound os z t c qs o j k.0 k.1 f) e

-- ---- the order

-- the item by which the result goes is one of the outermost object's
abbrev OrderFits : NestedQuery → Type 0
OrderFits n = IfSome n.order (λ o. o.item < length (outermost_names n.outer.selection))

-- a name has a place among those that are there
abbrev IsPlace : List (List ℕ) → Option ℕ → Type 0
IsPlace ms r = IfSome r (λ i. i < length ms)

one_more : (m : List ℕ) (ms : List (List ℕ)) (r : Option ℕ) → IsPlace ms r → IsPlace (m ∷ ms) (option_map (λ i. suc i) r)
one_more m ms None h = tt
one_more m ms (Some i) h = omega (arith, h)

first_or_later : (m : List ℕ) (ms : List (List ℕ)) (r : Option ℕ) (b : Bool) → IsPlace ms r → IsPlace (m ∷ ms) (if b then Some 0 else option_map (λ i. suc i) r)
first_or_later m ms r true h = omega arith
first_or_later m ms r false h = one_more m ms r h

named_place : (n : List ℕ) (ms : List (List ℕ)) → IsPlace ms (place_of_name n ms)
named_place n [] = tt
named_place n (m ∷ ms) = first_or_later m ms (place_of_name n ms) (bytes_eq n m) (named_place n ms)

placed_order : (q : Query) (x : OrderSyntax) (r : Option ℕ) (a : Option Order) → IsPlace (outermost_names q.selection) r → order_at x r ≡ Ok a → IfSome a (λ o. o.item < length (outermost_names q.selection))
placed_order q x None a h e = absurd (cc)
placed_order q x (Some i) a h e =
    let k : Some (record { item = i; descending = x.descending }) ≡ a = cc in
    subst (λ (b : Option Order). IfSome b (λ o. o.item < length (outermost_names q.selection))) k h

bound_order : (q : Query) (x : Option OrderSyntax) (a : Option Order) → bind_order q.selection x ≡ Ok a → IfSome a (λ o. o.item < length (outermost_names q.selection))
bound_order q None a e = let k : None ≡ a = cc in subst (λ (b : Option Order). IfSome b (λ o. o.item < length (outermost_names q.selection))) k tt
bound_order q (Some x) a e = placed_order q x (place_of_name (join_with_byte 46 x.path.names) (outermost_names q.selection)) a (named_place (join_with_byte 46 x.path.names) (outermost_names q.selection)) e

arranged_fits : (p : PlacedQuery) (q : Query) (r : Result (Option Order) NestedFault) (n : NestedQuery) → bind_order q.selection p.order ≡ r → in_an_order p q r ≡ Ok n → OrderFits n
arranged_fits p q (Ok a) n h e =
    let k : record { inner = []; outer = q; order = a; limit = p.limit } ≡ n = cc in
    subst OrderFits k (bound_order q p.order a h)
arranged_fits p q (Err f) n h e = absurd (cc)

alone_fits : (p : PlacedQuery) (r : Result Query BindFault) (n : NestedQuery) → alone p r ≡ Ok n → OrderFits n
alone_fits p (Ok q) n e = arranged_fits p q (bind_order q.selection p.order) n refl e
alone_fits p (Err f) n e = absurd (cc)

below_fits : (q : Query) (r : Result NestedQuery NestedFault) (n : NestedQuery) → ((c : NestedQuery) → r ≡ Ok c → OrderFits c) → below q r ≡ Ok n → OrderFits n
below_fits q (Err f) n g e = absurd (cc)
below_fits q (Ok c) n g e = let k : record c { inner = q ∷ c.inner } ≡ n = cc in subst OrderFits k (g c refl)

over_fits : (p : PlacedQuery) (q : Query) (next : Schema → Result NestedQuery NestedFault) (r : Result Schema SubFault) (n : NestedQuery) → ((t : Schema) (c : NestedQuery) → next t ≡ Ok c → OrderFits c) → over_result p q next r ≡ Ok n → OrderFits n
over_fits p q next (Err f) n g e = absurd (cc)
over_fits p q next (Ok t) n g e = below_fits q (next t) n (g t) e

then_fits : (s : Schema) (p : PlacedQuery) (next : Schema → Result NestedQuery NestedFault) (r : Result Query BindFault) (n : NestedQuery) → ((t : Schema) (c : NestedQuery) → next t ≡ Ok c → OrderFits c) → then_over s p next r ≡ Ok n → OrderFits n
then_fits s p next (Err f) n g e = absurd (cc)
then_fits s p next (Ok q) n g e =
    over_fits p q next (result_schema s.fields q) n g (ordered_over p (over_result p q next (result_schema s.fields q)) (bind_order q.selection p.order) n e)

from_fits : (os : List PlacedQuery) (p : PlacedQuery) (s : Schema) (n : NestedQuery) → bind_from os p s ≡ Ok n → OrderFits n
from_fits [] p s n e = alone_fits p (bind s p.query) n e
from_fits (z ∷ os) p s n e = then_fits s p (bind_from os z) (bind s p.query) n (λ t c f. from_fits os z t c f) e

-- ---- of a text

pub plans_are_bound : PlansAreBound
unfolding bind_nested
plans_are_bound s n p i h = let k = and_parts _ _ h.1 in from_bound h.0.others h.0.first s n p.inner.items p.outer i k.0 k.1 h.2 h.3.plans

pub orders_fit : OrdersFit
unfolding bind_nested
orders_fit s n p h = from_fits h.0.others h.0.first s n h.2
