-- Plans of queries over the results of others, and why there is none.
use Rattle.std.specs.Prelude.{◌≡◌, ⊤, List, [], ◌∷◌, Bool, ◌&&◌, Option, option_map, Result, Ok, Err}
use Rattle.std.specs.List.{list_all, slice_get}
use Rattle.dr_meaning.specs.Schema.{Fields, Schema}
use Rattle.dr_meaning.specs.Query.{Query}
use Rattle.dr_nested.specs.SchemaView.{schema_view}
use Rattle.dr_nested.specs.declared.schema.Schema.{Schema as CodeSchema}
use Rattle.dr_ordering.specs.Ordered.{Order}
use Rattle.dr_ordered.specs.Orders.{order_view}
use Rattle.dr_ordered.specs.declared.results.Order.{Order as CodeOrder}
use Rattle.dr_plan.specs.Planned.{plan_view, planned}
use Rattle.dr_plan.specs.declared.plan.Plan.{Plan}
use Rattle.dr_resolve.specs.Faults as binding
use Rattle.dr_resolve.specs.declared.fault.BindFault.{BindFault}
use Rattle.dr_sub_meaning.specs.Nested.{NestedQuery}
use Rattle.dr_meaning.specs.Refusals as refusals
use Rattle.dr_sub_meaning.specs.NestedBinding as meant
use Rattle.dr_sub_meaning.specs.NestedParse.{PlacedQuery}
use Rattle.dr_sub_meaning.specs.ResultRecords.{result_fields}
use Rattle.dr_sub_meaning.specs.ResultSchemaLaws.{has_items}
use Rattle.dr_sub.specs.declared.fault.SubFault.{SubFault}
use Rattle.dr_sub.specs.declared.fault.ResultFault.{ResultFault}
use Rattle.dr_sub.specs.declared.nested_fault.NestedProblem.{NestedProblem}
use Rattle.dr_sub.specs.declared.nested_fault.NestedFault.{NestedFault}
use Rattle.dr_sub.specs.declared.nested_plan.NestedPlan.{NestedPlan}

-- ---- faults

abbrev pub problem_view : NestedProblem → refusals.NestedProblem
problem_view (NestedProblem.Query p) = refusals.in_query (binding.problem_view p)
problem_view NestedProblem.BadOrder = refusals.bad_order
problem_view NestedProblem.NotRecords = refusals.gives_no_records
problem_view NestedProblem.ResultName = refusals.bad_result_name

-- the fault is what is meant; want of memory may come in place of anything
abbrev pub IsRefused : {A : Type 0} → Result A refusals.NestedFault → NestedFault → Type 0
IsRefused m NestedFault.NoMemory = ⊤
IsRefused m (NestedFault.Refused i p) = m ≡ Err (record { place = i; problem = problem_view p })

-- a fault of binding a SELECT, handed on
abbrev pub fault_of_bind : BindFault → NestedFault
fault_of_bind BindFault.NoMemory = NestedFault.NoMemory
fault_of_bind (BindFault.Refused f) = NestedFault.Refused f.place (NestedProblem.Query f.problem)

-- that a SELECT has no result schema
abbrev pub fault_of_schema : PlacedQuery → ResultFault → NestedFault
fault_of_schema p ResultFault.NoMemory = NestedFault.NoMemory
fault_of_schema p (ResultFault.Refused SubFault.NotRecords) = NestedFault.Refused p.place NestedProblem.NotRecords
fault_of_schema p (ResultFault.Refused (SubFault.ResultName i)) = NestedFault.Refused (meant.item_place (slice_get p.query.items i)) NestedProblem.ResultName

-- ---- orders

abbrev pub BindsOrder : Result (Option Order) refusals.NestedFault → Result (Option CodeOrder) NestedFault → Type 0
BindsOrder m (Ok o) = m ≡ Ok (option_map order_view o)
BindsOrder m (Err f) = IsRefused m f

-- ---- plans

-- the plans of record queries over these fields, one over the other, and that of a query over what the last gives
abbrev pub PlansThrough : Fields → List Plan → Plan → List Query → Query → Type 0
PlansThrough fs [] o [] q = plan_view o ≡ planned fs q
PlansThrough fs [] o (b ∷ bs) q = ⊥
PlansThrough fs (p ∷ ps) o [] q = ⊥
PlansThrough fs (p ∷ ps) o (b ∷ bs) q = (plan_view p ≡ planned fs b) × PlansThrough (result_fields fs b) ps o bs q

-- the plans of a query over these fields, with its order and its limit
pub record IsNestedPlan (fs : Fields) (p : NestedPlan) (n : NestedQuery) : Type 0 where
  pub plans : PlansThrough fs p.inner.items p.outer n.inner n.outer
  pub order : option_map order_view p.order ≡ n.order
  pub limit : p.limit ≡ n.limit

-- what is bound has these plans; or it is refused so
abbrev pub BindsNested : Fields → Result NestedQuery refusals.NestedFault → Result NestedPlan NestedFault → Type 0
BindsNested fs m (Ok p) = (n : NestedQuery) × (m ≡ Ok n) × IsNestedPlan fs p n
BindsNested fs m (Err f) = IsRefused m f

-- an inner query goes on with those over what it gives, whatever these are; or it is refused so
abbrev pub BindsInner : Schema → Query → PlacedQuery → Result CodeSchema NestedFault → Type 0
BindsInner s q p (Ok t) = ((schema_view t).fields ≡ result_fields s.fields q)
    × ((others : Schema → Result NestedQuery refusals.NestedFault) → meant.then_over s p others (Ok q) ≡ meant.below q (others (schema_view t)))
BindsInner s q p (Err f) = (others : Schema → Result NestedQuery refusals.NestedFault) → IsRefused (meant.then_over s p others (Ok q)) f

-- the same plans with this one below them
pub record IsBelow (p : Plan) (above made : NestedPlan) : Type 0 where
  pub inner : made.inner.items ≡ p ∷ above.inner.items
  pub outer : made.outer ≡ above.outer
  pub order : made.order ≡ above.order
  pub limit : made.limit ≡ above.limit

-- each SELECT has items as a text gives them
abbrev pub all_have_items : PlacedQuery → List PlacedQuery → Bool
all_have_items p ps = has_items p.query && list_all (λ (o : PlacedQuery). has_items o.query) ps
