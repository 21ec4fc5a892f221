-- The fields of a result's schema, by the plan of its objects.
use Rattle.std.specs.Prelude.{ℕ, List, [], ◌∷◌, map, string_bytes, Option, Some, None}
use Rattle.std.specs.List.{slice_get}
use Rattle.dr_meaning.specs.Schema.{Kind, bool_kind, int64_kind, text_kind, Fields, no_fields, field, optional, repeated, leaf, group}
use Rattle.dr_meaning.specs.SchemaText.{append_fields}
use Rattle.dr_plan.specs.Objects.{ObjectTree, object_tree, ListTrees, no_lists, list_tree}
use Rattle.dr_plan.specs.declared.expression.Expr.{Expr}
use Rattle.dr_plan.specs.declared.aggregate.Fold.{Fold}
use Rattle.dr_plan.specs.declared.plan.RecordTerm.{RecordTerm}
use Rattle.dr_plan.specs.declared.plan.RecordItem.{RecordItem}
use Rattle.dr_sub_meaning.specs.ResultRecords.{field_name}

-- ---- kinds

abbrev pub value_kind : Expr → Kind
value_kind (Expr.Truth a) = bool_kind
value_kind (Expr.Number a) = int64_kind
value_kind (Expr.Text a) = text_kind

-- COUNT and SUM give numbers, MIN and MAX what they are given
abbrev pub folded_kind : Fold → Kind → Kind
folded_kind Fold.Count k = int64_kind
folded_kind Fold.Sum k = int64_kind
folded_kind Fold.Least k = k
folded_kind Fold.Greatest k = k

abbrev pub term_kind : RecordTerm → Kind
term_kind (RecordTerm.Value e) = value_kind e
term_kind (RecordTerm.Within w) = folded_kind w.fold (value_kind w.argument)

-- ---- fields

-- the name and the kind of an item's leaf
pub record ItemLeaf : Type 0 where
  pub name : List ℕ
  pub kind : Kind

abbrev pub item_leaf : RecordItem → ItemLeaf
item_leaf i = record { name = string_bytes i.name; kind = term_kind i.term }

abbrev pub leaves_of : List RecordItem → List ItemLeaf
leaves_of items = map item_leaf items

abbrev pub leaf_at : Option ItemLeaf → Fields
leaf_at None = no_fields
leaf_at (Some l) = field (field_name l.name) optional (leaf l.kind) no_fields

-- the leaves at these places
abbrev pub leaves_at : List ItemLeaf → List ℕ → Fields
leaves_at ls [] = no_fields
leaves_at ls (n ∷ ns) = append_fields (leaf_at (slice_get ls n)) (leaves_at ls ns)

abbrev mutual
  -- an object's leaves, then a group for each of its lists
  pub object_fields : List ItemLeaf → ObjectTree → Fields
  object_fields ls (object_tree ns lists) = append_fields (leaves_at ls ns) (list_fields ls lists)

  pub list_fields : List ItemLeaf → ListTrees → Fields
  list_fields ls no_lists = no_fields
  list_fields ls (list_tree name p o lists) = field (field_name name) repeated (group (object_fields ls o)) (list_fields ls lists)
