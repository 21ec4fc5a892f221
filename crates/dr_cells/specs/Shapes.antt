-- The shape of a plan's result objects.
use Rattle.std.specs.Prelude.{ℕ, List, [], ◌∷◌, map, string_bytes, Option, Some, None}
use Rattle.std.specs.List.{slice_get}
use Rattle.dr_meaning.specs.Record.{Value, Node}
use Rattle.dr_meaning.specs.Query.{RecordItem, GroupItem, Selection, objects, groups}
use Rattle.dr_partials.specs.Accumulators.{Accumulator}
use Rattle.dr_partials.specs.Partials.{group_row}
use Rattle.dr_plan.specs.Objects.{ObjectTree, object_tree, ListTrees, no_lists, list_tree, tree_object}
use Rattle.dr_plan.specs.Planned.{Planned}
use Rattle.dr_cells.specs.Results.{ShapeTree, shape_tree, ListShapes, no_list_shapes, list_shape, FitsShape}
use Rattle.dr_cells.specs.declared.shape.Shape.{Shape, fold-Shape}
use Rattle.dr_cells.specs.declared.shape.ListShape.{ListShape, fold-ListShape}
use Rattle.dr_cells.specs.declared.shape.ListShape.TheOpen.{ListShape-F, Shape-F}

-- the name of a place, if there is one, before others
abbrev pub with_name : Option (List ℕ) → List (List ℕ) → List (List ℕ)
with_name None ns = ns
with_name (Some n) ns = n ∷ ns

-- the names at these places
abbrev pub names_at : List (List ℕ) → List ℕ → List (List ℕ)
names_at names [] = []
names_at names (n ∷ ns) = with_name (slice_get names n) (names_at names ns)

abbrev mutual
  -- the shape of the objects that a tree makes, where these are the names of the items
  pub tree_shape : List (List ℕ) → ObjectTree → ShapeTree
  tree_shape names (object_tree ns ls) = shape_tree (names_at names ns) (tree_list_shapes names ls)

  -- the lists of the objects that a tree makes
  pub tree_list_shapes : List (List ℕ) → ListTrees → ListShapes
  tree_list_shapes names no_lists = no_list_shapes
  tree_list_shapes names (list_tree name p o ls) = list_shape name (tree_shape names o) (tree_list_shapes names ls)

-- the names of the items of a record query
abbrev pub names_of_items : List RecordItem → List (List ℕ)
names_of_items items = map (λ (i : RecordItem). i.name) items

-- the shape of a group's row
abbrev pub row_shape : List GroupItem → ShapeTree
row_shape items = shape_tree (map (λ (i : GroupItem). i.name) items) no_list_shapes

-- the shape that a tree makes, where there is one
abbrev pub shape_by_tree : List (List ℕ) → Option ObjectTree → ShapeTree
shape_by_tree names None = shape_tree [] no_list_shapes
shape_by_tree names (Some o) = tree_shape names o

-- of a record query the shape that its tree makes, of an aggregate query that of its rows
abbrev pub selection_shape : Selection → Option ObjectTree → ShapeTree
selection_shape (objects items) o = shape_by_tree (names_of_items items) o
selection_shape (groups keys items) o = row_shape items

-- the shape of the result objects of what is planned
unfoldable pub plan_shape : Planned → ShapeTree
plan_shape p = selection_shape p.selection p.objects

-- ---- the view of a shape

-- a list whose objects' shape has been seen
pub record SeenList : Type 0 where
  pub name : List ℕ
  pub shape : ShapeTree

-- lists whose objects' shapes have been seen
abbrev pub list_shapes_of : List SeenList → ListShapes
list_shapes_of [] = no_list_shapes
list_shapes_of (l ∷ ls) = list_shape l.name l.shape (list_shapes_of ls)

-- one level, with its lists already seen
abbrev pub shape_step : Shape-F SeenList ShapeTree → ShapeTree
shape_step s = shape_tree (map string_bytes s.names.items) (list_shapes_of s.lists.items)

-- one list, with the shape of its objects already seen
abbrev pub list_step : ListShape-F SeenList ShapeTree → SeenList
list_step l = record { name = string_bytes l.name; shape = l.shape }

-- what a shape stands for
abbrev pub shape_view : Shape → ShapeTree
shape_view = fold-Shape SeenList ShapeTree list_step shape_step

-- a list of a shape
abbrev pub list_view : ListShape → SeenList
list_view = fold-ListShape SeenList ShapeTree list_step shape_step

-- the lists of a shape
abbrev pub lists_view : List ListShape → ListShapes
lists_view ls = list_shapes_of (map list_view ls)

-- ---- laws

-- the objects that a tree makes have its shape
abbrev pub TreeObjectsFit : Type 0
TreeObjectsFit = (items : List RecordItem) (o : ObjectTree) (row : Node) → FitsShape (tree_shape (names_of_items items) o) (tree_object items o row)

-- the rows of groups have theirs
abbrev pub GroupRowsFit : Type 0
GroupRowsFit = (items : List GroupItem) (t : List (Option Value)) (xs : List Accumulator) → FitsShape (row_shape items) (group_row items t xs)
