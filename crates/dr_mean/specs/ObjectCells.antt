-- The cells of the objects of a record query.
use Rattle.std.specs.Prelude.{ℕ, List, [], ◌∷◌, ◌++◌, map, if◌then◌else◌, Option, Some, None, ◌≡◌, length, true, Vec}
use Rattle.std.specs.declared.alloc.Global.{Global}
use Rattle.std.specs.List.{slice_get, flat_map}
use Rattle.dr_meaning.specs.Path.{Step, begins_with}
use Rattle.dr_meaning.specs.Record.{Node}
use Rattle.dr_meaning.specs.Rows.{is_present, rows}
use Rattle.dr_meaning.specs.Expression.{Expression, evaluate, expression_chain}
use Rattle.dr_meaning.specs.Query.{RecordItem, term_value, over_rows}
use Rattle.dr_nested.specs.PathView.{path_view}
use Rattle.dr_nested.specs.declared.path.Path.{Path}
use Rattle.dr_partials.specs.Accumulators.{accumulated}
use Rattle.dr_plan.specs.Objects.{ObjectTree, tree_object, object_view, tree_lists}
use Rattle.dr_plan.specs.Fitting.{expr_fits, record_term_fits}
use Rattle.dr_plan.specs.Views.{record_item_view, expr_view, fold_view, record_term_view}
use Rattle.dr_plan.specs.declared.aggregate.Fold.{Fold}
use Rattle.dr_plan.specs.declared.aggregate.Within.{Within}
use Rattle.dr_plan.specs.declared.expression.Expr.{Expr}
use Rattle.dr_plan.specs.declared.objects.ObjectPlan.{ObjectPlan}
use Rattle.dr_plan.specs.declared.objects.ListPlan.{ListPlan}
use Rattle.dr_plan.specs.declared.plan.RecordTerm.{RecordTerm}
use Rattle.dr_plan.specs.declared.plan.RecordItem.{RecordItem as PlanItem}
use Rattle.dr_cells.specs.PlanShapes.{plan_list_view, plan_lists_view}
use Rattle.dr_cells.specs.Results.{ResultCell, value_cell, object_cells, inner_cells, own_counts}
use Rattle.dr_cells.specs.Views.{cells_view}
use Rattle.dr_cells.specs.declared.cells.Cells.{Cells}
use Rattle.dr_group.specs.Views.{accumulator_view}
use Rattle.dr_group.specs.declared.accumulator.Accumulator.{Accumulator}
use Rattle.dr_rows.specs.declared.row.Row.{Row}
use Rattle.dr_rows.specs.declared.table.Rows.{Rows}
use Rattle.dr_mean.specs.Nested.{is_nested, are_nested, item_is_below, items_are_below, term_is_below}
use Rattle.dr_rows.specs.Views.{AreRowsOf}
use Rattle.dr_mean.specs.RowsOf.{IsTyped, OverRow}
use Rattle.dr_mean.specs.declared.items.Items.{Items}

-- the items of a plan, over its leaves
abbrev pub items_view : List Path → List PlanItem → List RecordItem
items_view leaves items = map (record_item_view (map path_view leaves)) items

-- these cells joined others
abbrev pub CellsJoin : List ResultCell → Cells → Cells → Type 0
CellsJoin more before after = cells_view after ≡ cells_view before ++ more

-- the cell of an item in a row
abbrev pub item_cells : Option RecordItem → Node → List ResultCell
item_cells None row = []
item_cells (Some i) row = value_cell (term_value i.term row) ∷ []

-- the cells of the items at these places
abbrev pub items_cells : List RecordItem → List ℕ → Node → List ResultCell
items_cells items [] row = []
items_cells items (n ∷ ns) row = item_cells (slice_get items n) row ++ items_cells items ns row

-- the cells of the object of a row, where an instance stands at the end of its chain
abbrev pub instance_cells : List RecordItem → List Step → ObjectTree → Node → List ResultCell
instance_cells items p o row = if is_present p row then object_cells (tree_object items o row) else []

-- ---- values

-- an aggregate has gathered the values of an expression in the rows of a chain, where these are what is known of them
abbrev pub Gathers : Fold → Expr → Rows → Accumulator → Type 0
Gathers fold e t a = (leaves : List Path) (chain : List Step) (whole : Node) → IsTyped leaves whole → expr_fits (map path_view leaves) e ≡ true
    → AreRowsOf leaves chain whole t → accumulator_view a ≡ accumulated (fold_view fold) (map (evaluate (expr_view (map path_view leaves) e)) (rows chain whole))

-- the argument of an aggregate, over some leaves, and whether it fits them
abbrev pub argument_in : List Path → Within → Expression
argument_in leaves w = expr_view (map path_view leaves) w.argument

abbrev pub ArgumentFits : List Path → Within → Type 0
ArgumentFits leaves w = expr_fits (map path_view leaves) w.argument ≡ true

-- its values are those of rows below a chain
abbrev pub GoesBelow : List Path → Within → List Step → Type 0
GoesBelow leaves w chain = begins_with chain (expression_chain (argument_in leaves w)) ≡ true

-- what is said of a row within which an aggregate goes over rows
abbrev pub OverWithin : List Path → Within → ℕ → Row → (Node → Type 0) → Type 0
OverWithin leaves w depth row says = OverRow leaves depth row (λ chain whole. ArgumentFits leaves w → GoesBelow leaves w chain → says whole)

-- the cell of what it gives within a row
abbrev pub within_cells : List Path → Within → Node → List ResultCell
within_cells leaves w row = value_cell (over_rows (fold_view w.fold) (argument_in leaves w) (rows (expression_chain (argument_in leaves w)) row)) ∷ []

-- ---- items

-- a term fits the leaves, and goes over rows below the chain, where it goes over some
abbrev pub TermFits : List Path → RecordTerm → Type 0
TermFits leaves term = record_term_fits (map path_view leaves) term ≡ true

abbrev pub IsTermBelow : List Path → RecordTerm → List Step → Type 0
IsTermBelow leaves term chain = term_is_below chain (record_term_view (map path_view leaves) term) ≡ true

-- the cell of its value in a row
abbrev pub term_cells : List Path → RecordTerm → Node → List ResultCell
term_cells leaves term row = value_cell (term_value (record_term_view (map path_view leaves) term) row) ∷ []

-- the items, over their leaves, and the one at a place
abbrev pub items_in : Items → List RecordItem
items_in items = items_view items.leaves.now items.items.now

abbrev pub item_in : Items → ℕ → Option RecordItem
item_in items place = slice_get (items_in items) place

-- what is said of a row of the leaves that the items use, along a chain of so many steps
abbrev pub OverItemRow : Items → ℕ → Row → (List Step → Node → Type 0) → Type 0
OverItemRow items depth row says = OverRow items.leaves.now depth row says

-- the item at a place goes over rows below a chain, where it goes over some, and so do those at some places
abbrev pub IsItemBelow : Items → ℕ → List Step → Type 0
IsItemBelow items place chain = item_is_below chain (item_in items place) ≡ true

abbrev pub AreItemsBelow : Items → List ℕ → List Step → Type 0
AreItemsBelow items places chain = items_are_below (items_in items) chain places ≡ true

-- ---- objects

-- how many objects each of some lists has in a row
abbrev pub counts_in : List RecordItem → Vec ListPlan Global → Node → List ResultCell
counts_in items lists row = own_counts (tree_lists items (plan_lists_view lists.items) row)

-- some lists lie within one another below a chain
abbrev pub AreListsNested : List RecordItem → Vec ListPlan Global → List Step → Type 0
AreListsNested items lists chain = are_nested items chain (plan_lists_view lists.items) ≡ true

-- those of an object do, and some of a plan
abbrev pub IsNestedIn : Items → ObjectPlan → List Step → Type 0
IsNestedIn items object chain = is_nested (items_in items) chain (object_view object) ≡ true

abbrev pub AreNestedIn : Items → Vec ListPlan Global → List Step → Type 0
AreNestedIn items lists chain = AreListsNested (items_in items) lists chain

-- a list is of a level below a chain
abbrev pub IsListBelow : ListPlan → List Step → Type 0
IsListBelow l chain = begins_with chain (plan_list_view l).level ≡ true

-- and those of its objects lie within one another
abbrev pub IsNestedList : Items → ListPlan → Type 0
IsNestedList items l = is_nested (items_in items) (plan_list_view l).level (plan_list_view l).object ≡ true

-- the cells of the object of a row of a chain, of the objects of some lists in it, and of those of one list
abbrev pub object_in : Items → ObjectPlan → List Step → Node → List ResultCell
object_in items object chain row = instance_cells (items_in items) chain (object_view object) row

abbrev pub lists_in : Items → Vec ListPlan Global → Node → List ResultCell
lists_in items lists row = inner_cells (tree_lists (items_in items) (plan_lists_view lists.items) row)

abbrev pub list_in : Items → ListPlan → Node → List ResultCell
list_in items l row = flat_map (instance_cells (items_in items) (plan_list_view l).level (plan_list_view l).object) (rows (plan_list_view l).level row)
