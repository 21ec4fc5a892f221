-- What binding says: the fault that it tells, what it keeps of the syntax tree, the types of values, the leaves of the query.
use Rattle.std.specs.Prelude.{◌≡◌, ◌↔◌, ℕ, suc, List, [], ◌∷◌, map, Bool, true, false, ◌&&◌, Option, Some, None, is_some, Ok, Err}
use Rattle.std.specs.List.{list_all, slice_get}
use Rattle.dr_meaning.specs.Schema.{Schema, Fields, no_fields, field, Shape, leaf, group}
use Rattle.dr_meaning.specs.Path.{Step, Leaf, is_leaf_path}
use Rattle.dr_meaning.specs.Record.{Value, bool_value, int_value, text_value, Node, no_slots, slot, gap, Instance, all_instances, is_atom_of, is_inner_that}
use Rattle.dr_meaning.specs.Record.{is_record, project}
use Rattle.dr_meaning.specs.Rows.{rows}
use Rattle.dr_meaning.specs.Expression.{Expression, evaluate}
use Rattle.dr_meaning.specs.Kept.{kept}
use Rattle.dr_meaning.specs.Query.{RecordItem, GroupItem, Selection, objects, groups, Query, meaning}
use Rattle.dr_meaning.specs.Syntax.{ExpressionSyntax, ItemSyntax, QuerySyntax}
use Rattle.dr_meaning.specs.BoundExpression.{BindFault, passes, ValueType, truth_type, number_type, text_type, BoundExpression, bind_expression}
use Rattle.dr_meaning.specs.Binding.{item_name, bind_parts, query_faults, is_before, bind}
use Rattle.dr_meaning.specs.QueryLeaves.{used_paths, query_leaves}

-- ---- the fault

-- the faults of all rules
abbrev pub faults_of : Schema → QuerySyntax → List BindFault
faults_of s q = query_faults s q (bind_parts s.fields q)

-- one of these, and none of them comes before it
abbrev pub IsFirst : BindFault → List BindFault → Type 0
IsFirst f fs = ((i : ℕ) × (slice_get fs i ≡ Some f)) × ((i : ℕ) (g : BindFault) → slice_get fs i ≡ Some g → is_before g f ≡ false)

-- where some rule has a fault, the first of all is told, and of two that come as early none is left out for a later one
abbrev pub FirstFaultIsTold : Type 0
FirstFaultIsTold = (s : Schema) (q : QuerySyntax) (f : BindFault) → bind s q ≡ Err f → IsFirst f (faults_of s q)

-- a query is bound exactly where no rule has a fault
abbrev pub BoundWithoutFault : Type 0
BoundWithoutFault = (s : Schema) (q : QuerySyntax) → ((b : Query) × (bind s q ≡ Ok b)) ↔ (faults_of s q ≡ [])

-- ---- what is kept

abbrev pub selection_names : Selection → List (List ℕ)
selection_names (objects items) = map (λ (i : RecordItem). i.name) items
selection_names (groups keys items) = map (λ (i : GroupItem). i.name) items

-- the names of items, of which the first is the nth
abbrev pub names_from : ℕ → List ItemSyntax → List (List ℕ)
names_from n [] = []
names_from n (i ∷ is) = item_name n i.term i.name ∷ names_from (suc n) is

-- what is bound has each item, in order, under its name, and a condition exactly where there is one
abbrev pub ItemsAreKept : Type 0
ItemsAreKept = (s : Schema) (q : QuerySyntax) (b : Query) → bind s q ≡ Ok b → selection_names b.selection ≡ names_from 0 q.items

abbrev pub ConditionIsKept : Type 0
ConditionIsKept = (s : Schema) (q : QuerySyntax) (b : Query) → bind s q ≡ Ok b → is_some b.condition ≡ is_some q.condition

-- ---- types

abbrev pub is_of_type : ValueType → Option Value → Bool
is_of_type t None = true
is_of_type truth_type (Some (bool_value b)) = true
is_of_type number_type (Some (int_value z)) = true
is_of_type text_type (Some (text_value t)) = true
is_of_type t (Some v) = false

abbrev pub fits_first : (Instance → Bool) → (Node → Bool) → Node → Bool
fits_first test rest no_slots = true
fits_first test rest (slot xs n) = all_instances test xs && rest n
fits_first test rest (gap n) = rest n

-- whether each instance in a node is of its field's shape, however many there are: so in a record, in what is kept of it, in its rows
abbrev mutual
  pub has_shapes : Fields → Node → Bool
  has_shapes no_fields = λ n. true
  has_shapes (field n r s fs) = fits_first (has_shape s) (has_shapes fs)

  pub has_shape : Shape → Instance → Bool
  has_shape (leaf k) = is_atom_of k
  has_shape (group fs) = is_inner_that (has_shapes fs)

-- an expression's value in such a node is of the type that binding told, or NULL
abbrev pub ValuesHaveTypes : Type 0
ValuesHaveTypes = (fs : Fields) (e : ExpressionSyntax) (b : BoundExpression) (n : Node) → bind_expression fs e ≡ passes b → has_shapes fs n ≡ true
    → is_of_type b.gives (evaluate b.expression n) ≡ true

abbrev pub RecordsHaveShapes : Type 0
RecordsHaveShapes = (fs : Fields) (n : Node) → is_record fs n ≡ true → has_shapes fs n ≡ true

abbrev pub RowsHaveShapes : Type 0
RowsHaveShapes = (fs : Fields) (p : List Step) (n : Node) → has_shapes fs n ≡ true → list_all (has_shapes fs) (rows p n) ≡ true

abbrev pub KeptHaveShapes : Type 0
KeptHaveShapes = (fs : Fields) (c : Option Expression) (n m : Node) → kept c n ≡ Some m → has_shapes fs n ≡ true → has_shapes fs m ≡ true

-- ---- leaves

-- each path whose value the query uses is that of a leaf of the schema
abbrev pub UsedPathsAreLeaves : Type 0
UsedPathsAreLeaves = (s : Schema) (q : QuerySyntax) (b : Query) → bind s q ≡ Ok b → list_all (is_leaf_path s.fields) (used_paths b) ≡ true

-- the query means on records projected to its leaves what it means on the records
abbrev pub LeavesAreEnough : Type 0
LeavesAreEnough = (s : Schema) (q : QuerySyntax) (b : Query) (R : List Node) → bind s q ≡ Ok b
    → meaning s.fields b (map (project (map (λ (l : Leaf). l.path) (query_leaves s.fields b))) R) ≡ meaning s.fields b R

-- the leaves of any query are leaves of the schema
abbrev pub QueryLeavesAreLeaves : Type 0
QueryLeavesAreLeaves = (fs : Fields) (q : Query) → list_all (λ (l : Leaf). is_leaf_path fs l.path) (query_leaves fs q) ≡ true
