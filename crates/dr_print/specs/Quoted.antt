-- Shapes with their names in quotes, and objects printed with their names as they stand.
use Rattle.std.specs.Prelude.{ℕ, List, [], ◌∷◌, ◌++◌, map, string_bytes, drop}
use Rattle.json.specs.Print.{quoted}
use Rattle.dr_meaning.specs.Query.{Object, no_entries, cell, list, Objects, no_objects, object}
use Rattle.dr_meaning.specs.Print.{cell_text, braced, bracketed}
use Rattle.dr_cells.specs.Results.{ShapeTree, shape_tree, ListShapes, no_list_shapes, list_shape, ReadObject, ReadObjects, read_object, read_lists, read_times}
use Rattle.dr_cells.specs.Views.{cells_view}
use Rattle.dr_cells.specs.declared.cells.Cells.{Cells}
use Rattle.dr_cells.specs.Shapes.{SeenList, list_shapes_of}
use Rattle.dr_print.specs.declared.quoted_shape.QuotedShape.{QuotedShape, fold-QuotedShape}
use Rattle.dr_print.specs.declared.quoted_shape.QuotedList.{QuotedList, fold-QuotedList}
use Rattle.dr_print.specs.declared.quoted_shape.QuotedList.TheOpen.{QuotedList-F, QuotedShape-F}

-- a name in quotes, and a colon
abbrev pub name_in_quotes : List ℕ → List ℕ
name_in_quotes n = quoted n ++ 58 ∷ []

abbrev mutual
  -- a shape with its names in quotes
  pub in_quotes : ShapeTree → ShapeTree
  in_quotes (shape_tree ns ls) = shape_tree (map name_in_quotes ns) (lists_in_quotes ls)

  -- lists with their names in quotes
  pub lists_in_quotes : ListShapes → ListShapes
  lists_in_quotes no_list_shapes = no_list_shapes
  lists_in_quotes (list_shape n s ls) = list_shape (name_in_quotes n) (in_quotes s) (lists_in_quotes ls)

-- ---- the view of a shape whose names are in quotes: the shape with these names

-- one level, with its lists already seen
abbrev pub quoted_step : QuotedShape-F SeenList ShapeTree → ShapeTree
quoted_step s = shape_tree (map string_bytes s.names.items) (list_shapes_of s.lists.items)

-- one list, with the shape of its objects already seen
abbrev pub quoted_list_step : QuotedList-F SeenList ShapeTree → SeenList
quoted_list_step l = record { name = string_bytes l.name; shape = l.shape }

-- what a shape stands for
abbrev pub quoted_view : QuotedShape → ShapeTree
quoted_view = fold-QuotedShape SeenList ShapeTree quoted_list_step quoted_step

-- a list of a shape
abbrev pub quoted_list_view : QuotedList → SeenList
quoted_list_view = fold-QuotedList SeenList ShapeTree quoted_list_step quoted_step

-- the lists of a shape
abbrev pub quoted_lists_view : List QuotedList → ListShapes
quoted_lists_view ls = list_shapes_of (map quoted_list_view ls)

-- ---- texts of objects whose names are in quotes already

abbrev mutual
  -- the entries of an object, each with its name as it stands
  pub entries_as_named : Object → List (List ℕ)
  entries_as_named no_entries = []
  entries_as_named (cell n v o) = (n ++ cell_text v) ∷ entries_as_named o
  entries_as_named (list n os o) = (n ++ bracketed (texts_as_named os)) ∷ entries_as_named o

  -- the texts of objects
  pub texts_as_named : Objects → List (List ℕ)
  texts_as_named no_objects = []
  texts_as_named (object o os) = braced (entries_as_named o) ∷ texts_as_named os

-- the text of an object
abbrev pub text_as_named : Object → List ℕ
text_as_named o = braced (entries_as_named o)

-- ---- what stands in cells

-- lists, whose counts are from one place on and whose objects from another; and so many objects, from a place on
abbrev pub lists_at : List QuotedList → Cells → ℕ → ℕ → ReadObject
lists_at ls cells counts at = read_lists (quoted_lists_view ls) (drop counts (cells_view cells)) (drop at (cells_view cells))

abbrev pub objects_at : QuotedShape → Cells → ℕ → ℕ → ReadObjects
objects_at shape cells count at = read_times (read_object (quoted_view shape)) count (drop at (cells_view cells))
