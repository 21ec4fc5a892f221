-- Plans of queries, each over what the one before it gives, and partials on their way through them.
use Rattle.std.specs.Prelude.{◌≡◌, ◌<◌, List, [], ◌∷◌, length, Ok, true, IfSome}
use Rattle.std.specs.List.{list_all}
use Rattle.dr_meaning.specs.Schema.{Schema, is_schema}
use Rattle.dr_meaning.specs.Record.{Node, is_record}
use Rattle.dr_meaning.specs.Query.{Query}
use Rattle.dr_ordering.specs.Ordered.{outermost_names}
use Rattle.dr_partials.specs.Partials.{Partial, partial_of}
use Rattle.dr_plan.specs.declared.plan.Plan.{Plan}
use Rattle.dr_sub.specs.ResultSchemas.{IsBoundTo}
use Rattle.dr_sub.specs.Texts.{ArePlansOf}
use Rattle.dr_sub.specs.declared.nested_plan.NestedPlan.{NestedPlan}
use Rattle.dr_sub_meaning.specs.Nested.{NestedQuery, fields_through, records_through}
use Rattle.dr_sub_meaning.specs.ResultFaults.{result_schema}

-- plans of record queries, the first over a schema, each other one over the schema of what the one before it gives; and
-- the plan of a query over what the last of them gives
abbrev pub AreBound : Schema → List Plan → Plan → List Query → Query → Type 0
AreBound s [] o [] q = IsBoundTo s q o
AreBound s [] o (b ∷ bs) q = ⊥
AreBound s (p ∷ ps) o [] q = ⊥
AreBound s (p ∷ ps) o (b ∷ bs) q = IsBoundTo s b p × ((t : Schema) × (result_schema s.fields b ≡ Ok t) × AreBound t ps o bs q)

-- it is the partial of the first of them of these records
pub record StandsBelow (s : Schema) (p : Plan) (ps : List Plan) (o : Plan) (b : Query) (bs : List Query) (q : Query) (R : List Node) (x : Partial) : Type 0 where
  pub bound : AreBound s (p ∷ ps) o (b ∷ bs) q
  pub records : list_all (is_record s.fields) R ≡ true
  pub stands : x ≡ partial_of s.fields b R

-- of some records for some such queries
abbrev pub MayGoThrough : Plan → List Plan → Plan → Partial → Type 0
MayGoThrough p ps o x = (s : Schema) × (b : Query) × (bs : List Query) × (q : Query) × (R : List Node) × StandsBelow s p ps o b bs q R x

-- of whatever records the first is, this is the partial of the outermost of what the others give
abbrev pub GoesThrough : Plan → List Plan → Plan → Partial → Partial → Type 0
GoesThrough p ps o x y = (s : Schema) (b : Query) (bs : List Query) (q : Query) (R : List Node) → StandsBelow s p ps o b bs q R x
    → y ≡ partial_of (fields_through s.fields (b ∷ bs)) q (records_through s.fields (b ∷ bs) R)

-- ---- a query with those in its FROM

-- the plans that a text gives are bound so
abbrev pub PlansAreBound : Type 0
PlansAreBound = (s : Schema) (n : NestedQuery) (p : NestedPlan) → is_schema s ≡ true → ArePlansOf s n p → AreBound s p.inner.items p.outer n.inner n.outer

-- the item by which its result goes is one of the outermost object's
abbrev pub OrdersFit : Type 0
OrdersFit = (s : Schema) (n : NestedQuery) (p : NestedPlan) → ArePlansOf s n p → IfSome n.order (λ o. o.item < length (outermost_names n.outer.selection))
