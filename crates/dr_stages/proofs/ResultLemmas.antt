-- From the innermost query's partial to the result of the outermost, in order and cut.
use Rattle.std.proofs.Common.{◌≡◌, ◌∙◌, ◌<◌, ◌≤◌, ℕ, List, [], ◌∷◌, length, get_or, true, Option, refl, sym, ap, subst}
use Rattle.std.specs.Prelude.{Result, Ok, Err, option_map}
use Rattle.std.specs.List.{list_all}
use Rattle.dr_meaning.specs.Schema.{Schema, Fields, is_schema}
use Rattle.dr_meaning.specs.Record.{Node, is_record}
use Rattle.dr_meaning.specs.Query.{Query, Object}
use Rattle.dr_meaning.specs.BoundExpression.{BindFault}
use Rattle.dr_meaning.specs.Binding.{bind}
use Rattle.dr_meaning.specs.Refusals.{NestedFault}
use Rattle.dr_ordering.specs.Ordered.{Order, arranged}
use Rattle.dr_ordered.specs.Orders.{order_view}
use Rattle.dr_ordered.specs.declared.results.Order.{Order as CodeOrder}
use Rattle.dr_partials.specs.Partials as plain
use Rattle.dr_partials.specs.Partials.{Partial}
use Rattle.dr_plan.specs.Planned.{Planned, plan_view, planned, planned_query}
use Rattle.dr_plan.specs.PlanOf.{IsPlanOf}
use Rattle.dr_plan.specs.declared.plan.Plan.{Plan}
use Rattle.dr_sub.specs.NestedPlans.{PlansThrough}
use Rattle.dr_sub.specs.Texts.{ArePlansOf}
use Rattle.dr_sub.specs.declared.nested_plan.NestedPlan.{NestedPlan}
use Rattle.dr_sub_meaning.specs.Nested.{NestedQuery, innermost, fields_through, records_through, outer_fields, outer_records, answered, partial_of, finished}
use Rattle.dr_sub_meaning.specs.NestedParse.{PlacedQuery}
use Rattle.dr_sub_meaning.specs.NestedBinding.{in_an_order, bind_order, alone, below, over_result, then_over, bind_from, bind_nested}
use Rattle.dr_sub_meaning.specs.ResultFaults.{SubFault, result_schema}
use Rattle.dr_sub_meaning.specs.ResultRecords.{result_fields}
use Rattle.dr_sub_meaning.proofs.NestedLemmas.{nested_finished_is_meaning}
use Rattle.dr_sub_meaning.proofs.ParsedItems.{ordered_over}
use Rattle.dr_stages.specs.Stages.{AreBound, MayGoThrough, GoesThrough}
use Rattle.dr_stages.specs.Results.{plan_below, innermost_plan, MayBeFinished, IsFinished, IsOutermost}
use Rattle.dr_stages.proofs.BoundLemmas.{plans_are_bound}
use Rattle.dr_stages.proofs.StageLemmas.{no_others, first_other, Later}

-- ---- the innermost query is that of the first SELECT

abbrev ReadsBy : Schema → PlacedQuery → NestedQuery → Type 0
ReadsBy s p n = bind s p.query ≡ Ok (innermost n.inner n.outer)

arranged_reads : (s : Schema) (p : PlacedQuery) (q : Query) (a : Result (Option Order) NestedFault) (n : NestedQuery) → bind s p.query ≡ Ok q → in_an_order p q a ≡ Ok n → ReadsBy s p n
arranged_reads s p q (Ok a) n b e = let k : record { inner = []; outer = q; order = a; limit = p.limit } ≡ n = cc in subst (ReadsBy s p) k b
arranged_reads s p q (Err f) n b e = absurd (cc)

alone_reads : (s : Schema) (p : PlacedQuery) (r : Result Query BindFault) (n : NestedQuery) → bind s p.query ≡ r → alone p r ≡ Ok n → ReadsBy s p n
alone_reads s p (Ok q) n b e = arranged_reads s p q (bind_order q.selection p.order) n b e
alone_reads s p (Err f) n b e = absurd (cc)

below_reads : (s : Schema) (p : PlacedQuery) (q : Query) (r : Result NestedQuery NestedFault) (n : NestedQuery) → bind s p.query ≡ Ok q → below q r ≡ Ok n → ReadsBy s p n
below_reads s p q (Ok c) n b e = let k : record c { inner = q ∷ c.inner } ≡ n = cc in subst (ReadsBy s p) k b
below_reads s p q (Err f) n b e = absurd (cc)

over_reads : (s : Schema) (p : PlacedQuery) (q : Query) (next : Schema → Result NestedQuery NestedFault) (r : Result Schema SubFault) (n : NestedQuery) → bind s p.query ≡ Ok q → over_result p q next r ≡ Ok n → ReadsBy s p n
over_reads s p q next (Ok t) n b e = below_reads s p q (next t) n b e
over_reads s p q next (Err f) n b e = absurd (cc)

then_reads : (s : Schema) (p : PlacedQuery) (next : Schema → Result NestedQuery NestedFault) (r : Result Query BindFault) (n : NestedQuery) → bind s p.query ≡ r → then_over s p next r ≡ Ok n → ReadsBy s p n
then_reads s p next (Ok q) n b e =
    over_reads s p q next (result_schema s.fields q) n b (ordered_over p (over_result p q next (result_schema s.fields q)) (bind_order q.selection p.order) n e)
then_reads s p next (Err f) n b e = absurd (cc)

from_reads : (os : List PlacedQuery) (p : PlacedQuery) (s : Schema) (n : NestedQuery) → bind_from os p s ≡ Ok n → ReadsBy s p n
from_reads [] p s n e = alone_reads s p (bind s p.query) n refl e
from_reads (z ∷ os) p s n e = then_reads s p (bind_from os z) (bind s p.query) n refl e

below_planned : (fs : Fields) (ps : List Plan) (o : Plan) (bs : List Query) (q : Query) → PlansThrough fs ps o bs q → plan_view (plan_below ps o) ≡ planned fs (innermost bs q)
below_planned fs [] o [] q h = h
below_planned fs [] o (b ∷ bs) q h = absurd h
below_planned fs (p ∷ ps) o [] q h = absurd h
below_planned fs (p ∷ ps) o (b ∷ bs) q h = h.0

-- its plan is that of the innermost query
pub innermost_planned : (s : Schema) (n : NestedQuery) (p : NestedPlan) → ArePlansOf s n p → IsPlanOf s (innermost n.inner n.outer) (innermost_plan p)
unfolding bind_nested
innermost_planned s n p h = (h.0.first.query, from_reads h.0.others h.0.first s n h.2, below_planned s.fields p.inner.items p.outer n.inner n.outer h.3.plans)

-- of some plans, which are those below the outermost
pub innermost_planned_as : (s : Schema) (n : NestedQuery) (p : NestedPlan) (ps : List Plan) → p.inner.items ≡ ps → ArePlansOf s n p → IsPlanOf s (innermost n.inner n.outer) (plan_below ps p.outer)
innermost_planned_as s n p ps e h = subst (λ (zs : List Plan). IsPlanOf s (innermost n.inner n.outer) (plan_below zs p.outer)) e (innermost_planned s n p h)

-- none of them, or the first and those behind it
pub none_inner : (p : NestedPlan) (ps : List Plan) → ps ≡ p.inner.items → length ps < 1 → p.inner.items ≡ []
none_inner p ps v h = sym v ∙ no_others ps h

pub some_inner : (p : NestedPlan) (ps : List Plan) (f : Plan) → ps ≡ p.inner.items → 1 ≤ length ps → f ≡ get_or ps 0 f → p.inner.items ≡ f ∷ Later ps
some_inner p ps f v h e = sym v ∙ first_other ps f h e

-- ---- the outermost query's plan

through_planned : (fs : Fields) (ps : List Plan) (o : Plan) (bs : List Query) (q : Query) → PlansThrough fs ps o bs q → plan_view o ≡ planned (fields_through fs bs) q
through_planned fs [] o [] q h = h
through_planned fs [] o (b ∷ bs) q h = absurd h
through_planned fs (p ∷ ps) o [] q h = absurd h
through_planned fs (p ∷ ps) o (b ∷ bs) q h = through_planned (result_fields fs b) ps o bs q h.1

pub outermost_planned : (s : Schema) (n : NestedQuery) (p : NestedPlan) → ArePlansOf s n p → plan_view p.outer ≡ planned (outer_fields s.fields n) n.outer
unfolding outer_fields
outermost_planned s n p h = through_planned s.fields p.inner.items p.outer n.inner n.outer h.3.plans

-- ---- from the innermost to the outermost partial

no_inner : (fs : Fields) (R : List Node) (ps : List Plan) (o : Plan) (bs : List Query) (q : Query) (x : Partial) → ps ≡ [] → PlansThrough fs ps o bs q → x ≡ plain.partial_of fs (innermost bs q) R
    → x ≡ plain.partial_of (fields_through fs bs) q (records_through fs bs R)
no_inner fs R ps o [] q x e h k = k
no_inner fs R ps o (b ∷ bs) q x e h k = absurd (subst (λ (zs : List Plan). PlansThrough fs zs o (b ∷ bs) q) e h)

-- where there is no query over it, it is the outermost
pub alone_is_outermost : (s : Schema) (p : NestedPlan) (x : Partial) → p.inner.items ≡ [] → IsOutermost s p x x
unfolding partial_of outer_fields outer_records
alone_is_outermost s p x e n R h k = no_inner s.fields R p.inner.items p.outer n.inner n.outer x e h.3.plans k.1

first_stands : (s : Schema) (p : Plan) (ps : List Plan) (o : Plan) (bs : List Query) (q : Query) (R : List Node) (x : Partial) → AreBound s (p ∷ ps) o bs q → list_all (is_record s.fields) R ≡ true
    → x ≡ plain.partial_of s.fields (innermost bs q) R → MayGoThrough p ps o x
first_stands s p ps o [] q R x h r k = absurd h
first_stands s p ps o (b ∷ bs) q R x h r k = (s, b, bs, q, R, record { bound = h; records = r; stands = k })

came_through : (s : Schema) (p : Plan) (ps : List Plan) (o : Plan) (bs : List Query) (q : Query) (R : List Node) (x y : Partial) → AreBound s (p ∷ ps) o bs q → list_all (is_record s.fields) R ≡ true
    → x ≡ plain.partial_of s.fields (innermost bs q) R → GoesThrough p ps o x y → y ≡ plain.partial_of (fields_through s.fields bs) q (records_through s.fields bs R)
came_through s p ps o [] q R x y h r k g = absurd h
came_through s p ps o (b ∷ bs) q R x y h r k g = g s b bs q R (record { bound = h; records = r; stands = k })

module _ (s : Schema) (p : NestedPlan) (f : Plan) (fs : List Plan) (i : is_schema s ≡ true) (e : p.inner.items ≡ f ∷ fs) where
  bound_over : (n : NestedQuery) → ArePlansOf s n p → AreBound s (f ∷ fs) p.outer n.inner n.outer
  bound_over n h = subst (λ (zs : List Plan). AreBound s zs p.outer n.inner n.outer) e (plans_are_bound s n p i h)

  -- else it goes through those over it, and so comes to the outermost
  pub may_go : (x : Partial) → MayBeFinished s p x → MayGoThrough f fs p.outer x
  may_go x m = let n = m.0 in first_stands s f fs p.outer n.inner n.outer m.1 x (bound_over n m.2) m.3.0 m.3.1

  pub through_is_outermost : (x y : Partial) → GoesThrough f fs p.outer x y → IsOutermost s p x y
  unfolding partial_of outer_fields outer_records
  through_is_outermost x y g n R h k = came_through s f fs p.outer n.inner n.outer R x y (bound_over n h) k.0 k.1 g

-- ---- from the outermost partial to the result

finished_by_plan : (fs : Fields) (v : Planned) (q : Query) (y : Partial) → v ≡ planned fs q → plain.finished (planned_query v) y ≡ plain.finished q y
unfolding plain.finished
finished_by_plan fs v q y e = ap (λ (w : Planned). plain.finished (planned_query w) y) e

in_an_order_as : (n : NestedQuery) (order : Option CodeOrder) (limit : Option ℕ) (os : List Object) → option_map order_view order ≡ n.order → limit ≡ n.limit → arranged (option_map order_view order) limit os ≡ answered n os
unfolding answered
in_an_order_as n order limit os e f = ap (λ (o : Option Order). arranged o limit os) e ∙ ap (λ (l : Option ℕ). arranged n.order l os) f

pub result_is_finished : (s : Schema) (p : NestedPlan) (x y : Partial) (os zs : List Object) → IsOutermost s p x y → os ≡ plain.finished (planned_query (plan_view p.outer)) y → zs ≡ arranged (option_map order_view p.order) p.limit os
    → IsFinished s p x zs
unfolding finished
result_is_finished s p x y os zs g e a n R h k =
    let whole : os ≡ plain.finished n.outer (partial_of s.fields n R) = e ∙ (finished_by_plan (outer_fields s.fields n) (plan_view p.outer) n.outer y (outermost_planned s n p h) ∙ ap (plain.finished n.outer) (g n R h k)) in
    a ∙ (in_an_order_as n p.order p.limit os h.3.order h.3.limit ∙ (ap (answered n) whole ∙ nested_finished_is_meaning s.fields n R))
