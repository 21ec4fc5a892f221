-- Queries over the results of others, as their plans tell them.
use Rattle.std.specs.Prelude.{◌≡◌, ℕ, List, Ok, true}
use Rattle.dr_meaning.specs.Schema.{Fields, Schema, is_schema}
use Rattle.dr_meaning.specs.Query.{Query}
use Rattle.dr_partials.specs.RewritingText.{path_text}
use Rattle.dr_plan.specs.declared.plan.Plan.{Plan}
use Rattle.dr_sub.specs.NestedPlans.{PlansThrough, all_have_items}
use Rattle.dr_sub_meaning.specs.Nested.{NestedQuery}
use Rattle.dr_sub_meaning.specs.NestedBinding.{bind_from}
use Rattle.dr_sub_meaning.specs.NestedParse.{PlacedQuery}
use Rattle.dr_sub_meaning.specs.NestedText.{leaf_over}

-- the leaf query of a query over a table
abbrev pub leaf_of : Fields → List ℕ → Query → List ℕ
leaf_of fs table q = leaf_over table (path_text fs) q.condition q.selection

-- the plans of a query over a schema that SELECTs are bound to, one over the other, whose items are as a text gives them
pub record ArePlansFrom (s : Schema) (ps : List Plan) (o : Plan) (n : NestedQuery) : Type 0 where
  pub first : PlacedQuery
  pub others : List PlacedQuery
  pub schema : is_schema s ≡ true
  pub items : all_have_items first others ≡ true
  pub bound : bind_from others first s ≡ Ok n
  pub plans : PlansThrough s.fields ps o n.inner n.outer

-- of some query, and of whatever query
abbrev pub AreSomePlans : Schema → List Plan → Plan → Type 0
AreSomePlans s ps o = (n : NestedQuery) × ArePlansFrom s ps o n

abbrev pub ForPlans : Schema → List Plan → Plan → (NestedQuery → Type 0) → Type 0
ForPlans s ps o P = (n : NestedQuery) → ArePlansFrom s ps o n → P n
