-- Results as cells, by computation: records with an id and a list of names, of which each has a list of languages.
use Rattle.std.specs.Prelude.{◌≡◌, List, [], ◌∷◌, ◌++◌, pos, Some, None, codes}
use Rattle.std.proofs.Common.{refl}
use Rattle.dr_meaning.specs.Record.{int_value, text_value}
use Rattle.dr_meaning.specs.Query.{Object, no_entries, cell, list, no_objects, object}
use Rattle.dr_cells.specs.Results.{ResultCell, value_cell, count_cell, result_cells, ShapeTree, shape_tree, no_list_shapes, list_shape, read_rows}

abbrev language : Object
language = cell (codes "Code") (Some (text_value (codes "en"))) no_entries

-- a name with a language, one with two, and one without
abbrev first_record : Object
first_record = cell (codes "Id") (Some (int_value (pos 10))) (list (codes "Name") (object (cell (codes "Url") None (list (codes "Language") (object language no_objects) no_entries))
    (object (cell (codes "Url") (Some (text_value (codes "u"))) (list (codes "Language") (object language (object language no_objects)) no_entries))
    (object (cell (codes "Url") None (list (codes "Language") no_objects no_entries)) no_objects))) no_entries)

-- no name at all
abbrev second_record : Object
second_record = cell (codes "Id") None (list (codes "Name") no_objects no_entries)

abbrev worked_shape : ShapeTree
worked_shape = shape_tree (codes "Id" ∷ []) (list_shape (codes "Name") (shape_tree (codes "Url" ∷ []) (list_shape (codes "Language") (shape_tree (codes "Code" ∷ []) no_list_shapes) no_list_shapes)) no_list_shapes)

abbrev code_cell : ResultCell
code_cell = value_cell (Some (text_value (codes "en")))

-- values, then counts, then the objects of the lists
abbrev first_cells : List ResultCell
first_cells = value_cell (Some (int_value (pos 10))) ∷ count_cell 3 ∷ value_cell None ∷ count_cell 1 ∷ code_cell ∷ value_cell (Some (text_value (codes "u"))) ∷ count_cell 2 ∷ code_cell ∷ code_cell ∷ value_cell None ∷ count_cell 0 ∷ []

pub worked_cells : result_cells (first_record ∷ second_record ∷ []) ≡ first_cells ++ value_cell None ∷ count_cell 0 ∷ []
worked_cells = refl

-- both are read from them, and what follows is left
pub worked_reading : read_rows worked_shape 2 (first_cells ++ value_cell None ∷ count_cell 0 ∷ code_cell ∷ []) ≡ record { objects = first_record ∷ second_record ∷ []; rest = code_cell ∷ [] }
unfolding read_rows
worked_reading = refl

-- the first alone
pub worked_first : (read_rows worked_shape 1 (first_cells ++ value_cell None ∷ count_cell 0 ∷ [])).rest ≡ value_cell None ∷ count_cell 0 ∷ []
unfolding read_rows
worked_first = refl
