-- What the bound parts of a query stand for in a plan over leaves, and which parts a plan can be made of.
use Rattle.std.specs.Prelude.{◌≡◌, ℕ, suc, List, [], ◌∷◌, ◌++◌, map, length, Bool, true, false, nat_lt, if◌then◌else◌, Option, Some, None, option_map, String}
use Rattle.std.specs.List.{list_all, flat_map, filter_map, slice_get}
use Rattle.std.specs.declared.alloc.Global.{Global}
use Rattle.dr_meaning.specs.Schema.{Fields}
use Rattle.dr_meaning.specs.Path.{Step, Leaf, chain_end}
use Rattle.dr_meaning.specs.Expression.{Expression, longest_chain}
use Rattle.dr_meaning.specs.BoundExpression as meant
use Rattle.dr_meaning.specs.Binding as binding
use Rattle.dr_meaning.specs.Query as query
use Rattle.dr_meaning.specs.QueryLeaves.{query_leaves}
use Rattle.dr_nested.specs.PathView.{step_view}
use Rattle.dr_plan.specs.Conjuncts.{conjuncts, Joining, joining_from}
use Rattle.dr_plan.specs.Objects.{object_view, object_tree_of}
use Rattle.dr_plan.specs.Views.{truth_view, path_of}
use Rattle.dr_plan.specs.Fitting.{truth_fits, is_summed}
use Rattle.dr_plan.specs.declared.aggregate.Aggregate.{Aggregate}
use Rattle.dr_plan.specs.declared.objects.ObjectPlan.{ObjectPlan}
use Rattle.dr_plan.specs.declared.plan.RecordTerm.{RecordTerm}
use Rattle.dr_plan.specs.declared.plan.RecordItem.{RecordItem}
use Rattle.dr_plan.specs.declared.plan.GroupTerm.{GroupTerm}
use Rattle.dr_plan.specs.declared.plan.GroupItem.{GroupItem}
use Rattle.dr_plan.specs.declared.plan.Selection.{Selection}
use Rattle.dr_plan.specs.declared.plan.Plan.{Plan}
use Rattle.dr_plan.specs.Planned.{plan_view, planned}
use Rattle.dr_planning.specs.NamedLevels.{NamedLevels, joined}
use Rattle.dr_paths.specs.declared.bound.BoundPath.{BoundPath}
use Rattle.dr_paths.specs.Views.{bound_path_view, paths_at}
use Rattle.dr_resolve.specs.declared.bound.BoundExpression.{BoundExpression}
use Rattle.dr_resolve.specs.declared.bound.BoundCondition.{BoundCondition}
use Rattle.dr_resolve.specs.declared.bound.BoundTerm.{BoundTerm}
use Rattle.dr_resolve.specs.declared.bound.BoundItem.{BoundItem}
use Rattle.dr_resolve.specs.declared.bound.BoundParts.{BoundParts}
use Rattle.dr_planning.specs.declared.groups.Grouped.{Grouped}
use Rattle.dr_resolve.specs.Bound.{Covers}
use Rattle.dr_resolve.specs.Parts.{AreParts}

-- ---- the paths whose values are used

abbrev pub condition_paths : Option BoundCondition → List BoundPath
condition_paths None = []
condition_paths (Some c) = c.paths.items

-- of a term of a record query: there is none for an aggregate without WITHIN
abbrev pub record_paths : BoundTerm → List BoundPath
record_paths (BoundTerm.Value x) = x.paths.items
record_paths (BoundTerm.Rows w) = []
record_paths (BoundTerm.Aggregated f x None) = []
record_paths (BoundTerm.Aggregated f x (Some w)) = x.paths.items

-- of a term of an aggregate query, apart from its keys
abbrev pub group_paths : BoundTerm → List BoundPath
group_paths (BoundTerm.Value x) = []
group_paths (BoundTerm.Rows w) = []
group_paths (BoundTerm.Aggregated f x None) = x.paths.items
group_paths (BoundTerm.Aggregated f x (Some w)) = []

abbrev pub record_item_paths : List BoundItem → List BoundPath
record_item_paths xs = flat_map (λ (x : BoundItem). record_paths x.term) xs

abbrev pub group_item_paths : List BoundItem → List BoundPath
group_item_paths xs = flat_map (λ (x : BoundItem). group_paths x.term) xs

-- of what is selected
abbrev pub selection_paths : Bool → List BoundPath → List BoundItem → List BoundPath
selection_paths is_record_query keys xs = if is_record_query then record_item_paths xs else keys ++ group_item_paths xs

-- of all parts, in the order of the definitions
abbrev pub parts_paths : BoundParts → List BoundPath
parts_paths p = condition_paths p.condition ++ selection_paths p.is_record_query p.keys.items p.items.items

-- the steps of bound paths
abbrev pub steps_at : List BoundPath → List (List Step)
steps_at ps = paths_at (map bound_path_view ps)

-- ---- the condition

abbrev pub condition_conjuncts : List Leaf → Option BoundCondition → List Expression
condition_conjuncts ls None = []
condition_conjuncts ls (Some c) = conjuncts (truth_view ls c.truth.value)

-- how the condition joins them
abbrev pub condition_joining : List Leaf → Option BoundCondition → Option Joining
condition_joining ls None = None
condition_joining ls (Some c) = Some (joining_from 0 (truth_view ls c.truth.value))

abbrev pub condition_fits : List Leaf → Option BoundCondition → Bool
condition_fits ls None = true
condition_fits ls (Some c) = truth_fits ls c.truth.value

-- ---- record queries

-- the term of a record query: an expression, or an aggregate with WITHIN
abbrev pub record_term_of : BoundTerm → Option RecordTerm
record_term_of (BoundTerm.Value x) = Some (RecordTerm.Value x.expression.value)
record_term_of (BoundTerm.Rows w) = None
record_term_of (BoundTerm.Aggregated f x None) = None
record_term_of (BoundTerm.Aggregated f x (Some w)) = Some (RecordTerm.Within (record { fold = f; argument = x.expression.value; node = w.node }))

abbrev pub record_item_of : BoundItem → Option RecordItem
record_item_of x = option_map (λ t. record { name = x.name; term = t }) (record_term_of x.term)

-- the chain of the object in which a term of a record query stands
abbrev pub record_chain : BoundTerm → Option (List Step)
record_chain (BoundTerm.Value x) = Some (longest_chain (steps_at x.paths.items))
record_chain (BoundTerm.Rows w) = None
record_chain (BoundTerm.Aggregated f x None) = None
record_chain (BoundTerm.Aggregated f x (Some w)) = Some (chain_end (map step_view w.node.items))

abbrev pub record_chains : List BoundItem → List (List Step)
record_chains xs = filter_map (λ (x : BoundItem). record_chain x.term) xs

-- the plan of the objects of items at these levels
abbrev pub AreObjects : NamedLevels → List (List Step) → ObjectPlan → Type 0
AreObjects levels qs o = (fs : Fields) (its : List query.RecordItem) → levels ≡ joined (query.levels_of fs)
    → map (λ (i : query.RecordItem). query.term_chain i.term) its ≡ qs → object_view o ≡ object_tree_of fs its

abbrev pub SelectsObjects : NamedLevels → List BoundItem → Selection → Type 0
SelectsObjects levels xs (Selection.Objects items o) = (items.items ≡ filter_map record_item_of xs) × AreObjects levels (record_chains xs) o
SelectsObjects levels xs (Selection.Groups keys aggregates items) = ⊥

-- ---- aggregate queries

-- the place of the first of these paths among the keys
abbrev pub place_of_first : List meant.BoundPath → List (List Step) → Option ℕ
place_of_first keys [] = None
place_of_first keys (p ∷ ps) = binding.place_among keys p

-- the key that an expression is: it has to be a path
abbrev pub key_number : List BoundPath → BoundExpression → Option ℕ
key_number keys x = if x.is_path then place_of_first (map bound_path_view keys) (steps_at x.paths.items) else None

-- a term of an aggregate query: a key by its number, or an aggregate without WITHIN
abbrev pub grouped_of : List BoundPath → BoundTerm → Option Grouped
grouped_of keys (BoundTerm.Value x) = option_map (λ k. Grouped.Key k) (key_number keys x)
grouped_of keys (BoundTerm.Rows None) = Some (Grouped.Aggregate Aggregate.Rows)
grouped_of keys (BoundTerm.Rows (Some w)) = None
grouped_of keys (BoundTerm.Aggregated f x None) = Some (Grouped.Aggregate (Aggregate.Of f x.expression.value))
grouped_of keys (BoundTerm.Aggregated f x (Some w)) = None

-- the aggregate of a term, before others
abbrev pub with_aggregate : Option Grouped → List Aggregate → List Aggregate
with_aggregate None later = later
with_aggregate (Some (Grouped.Key k)) later = later
with_aggregate (Some (Grouped.Aggregate a)) later = a ∷ later

-- the aggregates of items, in their order
abbrev pub aggregates_of : List BoundPath → List BoundItem → List Aggregate
aggregates_of keys [] = []
aggregates_of keys (x ∷ xs) = with_aggregate (grouped_of keys x.term) (aggregates_of keys xs)

-- the item of a term, where its aggregate would have the number n, before others that are told the next number
abbrev pub with_group_item : ℕ → String Global → Option Grouped → (ℕ → List GroupItem) → List GroupItem
with_group_item n name None later = later n
with_group_item n name (Some (Grouped.Key k)) later = record { name = name; term = GroupTerm.Key k } ∷ later n
with_group_item n name (Some (Grouped.Aggregate a)) later = record { name = name; term = GroupTerm.Aggregate n } ∷ later (suc n)

-- the items of an aggregate query, with numbers for aggregates from n on
abbrev pub group_items_of : List BoundPath → ℕ → List BoundItem → List GroupItem
group_items_of keys n [] = []
group_items_of keys n (x ∷ xs) = with_group_item n x.name (grouped_of keys x.term) (λ m. group_items_of keys m xs)

-- these are the numbers of the leaves of these paths, where the leaves cover them
abbrev pub AreNumbers : List Leaf → List meant.BoundPath → List ℕ → Type 0
AreNumbers ls ps ns = Covers ls ps → (map (λ k. path_of (slice_get ls k)) ns ≡ paths_at ps) × (list_all (λ k. nat_lt k (length ls)) ns ≡ true)

abbrev pub SelectsGroups : List Leaf → List BoundPath → List BoundItem → Selection → Type 0
SelectsGroups ls keys xs (Selection.Objects items o) = ⊥
SelectsGroups ls keys xs (Selection.Groups numbers aggregates items) = AreNumbers ls (map bound_path_view keys) numbers.items
    × (aggregates.items ≡ aggregates_of keys xs) × (items.items ≡ group_items_of keys 0 xs)

-- what parts select: objects where it is a record query, groups where it isn't
abbrev pub Selects : Bool → NamedLevels → List Leaf → List BoundPath → List BoundItem → Selection → Type 0
Selects true levels ls keys xs s = SelectsObjects levels xs s
Selects false levels ls keys xs s = SelectsGroups ls keys xs s

-- ---- which parts a plan can be made of

-- SUM is of numbers
abbrev pub sums_numbers : BoundTerm → Bool
sums_numbers (BoundTerm.Value x) = true
sums_numbers (BoundTerm.Rows w) = true
sums_numbers (BoundTerm.Aggregated f x w) = is_summed f x.expression.value

-- parts of some query over leaves that have all the paths whose values are used, with SUM of numbers alone
pub record CanBePlanned (ls : List Leaf) (p : BoundParts) : Type 0 where
  pub fields : Fields
  pub bound : binding.BoundParts
  pub parts : AreParts fields ls bound p
  pub covered : Covers ls (map bound_path_view (parts_paths p))
  pub summed : list_all (λ (x : BoundItem). sums_numbers x.term) p.items.items ≡ true

-- whatever parts of a query over a schema of these levels these stand for, where the leaves are the query's, this is its plan
abbrev pub IsPlanOfParts : NamedLevels → List Leaf → BoundParts → Plan → Type 0
IsPlanOfParts levels ls parts p = (fs : Fields) (b : binding.BoundParts) → AreParts fs ls b parts → levels ≡ joined (query.levels_of fs) → ls ≡ query_leaves fs (binding.query_of b)
    → plan_view p ≡ planned fs (binding.query_of b)

-- ---- what the definitions say of SUM

-- SUM is of numbers
abbrev pub SumsNumbers : binding.BoundTerm → Type 0
SumsNumbers (binding.aggregated query.sum e w) = e.gives ≡ meant.number_type
SumsNumbers t = Unit {0}

abbrev pub AllSumNumbers : List binding.BoundItem → Type 0
AllSumNumbers [] = Unit {0}
AllSumNumbers (b ∷ bs) = SumsNumbers b.term × AllSumNumbers bs
