-- Kept objects of a small record, by computation.
use Rattle.std.specs.Prelude.{◌≡◌, ℕ, List, [], ◌∷◌, map, Bool, None, codes, refl}
use Rattle.std.specs.List.{filter_map}
use Rattle.dr_meaning.specs.Record.{Node}
use Rattle.dr_meaning.specs.Expression.{Expression, path_value, evaluate, is_true, is_null}
use Rattle.dr_meaning.specs.Kept.{kept_along}
use Rattle.dr_meaning.specs.Query.{count, sum, expression, within, RecordItem, Object, no_entries, cell, list, no_objects, object, levels_of, record_object}
use Rattle.dr_kept_laws.specs.ObjectsOfKept.{kept_object}
use Rattle.dr_kept_laws.proofs.WorkedGroupFlow.{fs}
use Rattle.dr_kept_laws.proofs.WorkedRowsOfKept.{a, b, c, d, e, x, y, above, some_number, whole}

-- SELECT d, SUM(y) WITHIN a, c, SUM(e) WITHIN RECORD, x, COUNT(x) WITHIN a
abbrev items : List RecordItem
items = record { name = codes "d"; term = expression (path_value d) } ∷ record { name = codes "s"; term = within sum (path_value y) a } ∷ record { name = codes "c"; term = expression (path_value c) }
    ∷ record { name = codes "r"; term = within sum (path_value e) [] } ∷ record { name = codes "x"; term = expression (path_value x) } ∷ record { name = codes "n"; term = within count (path_value x) a } ∷ []

abbrev row_test : Expression → Node → Bool
row_test condition row = is_true (evaluate condition row)

abbrev number_cell : List ℕ → ℕ → Object → Object
number_cell n k o = cell n (some_number k) o

-- where x > 5
abbrev by_x : Object
by_x = number_cell (codes "r") 83 (list [] (
    object (number_cell (codes "d") 31 (number_cell (codes "s") 71 (number_cell (codes "n") 1
    (list [] (object (number_cell (codes "x") 7 no_entries) no_objects)
    (list [] (object (number_cell (codes "c") 21 no_entries) (object (number_cell (codes "c") 22 no_entries) no_objects)) no_entries)))))
    (object (cell (codes "d") None (number_cell (codes "s") 183 (number_cell (codes "n") 2
    (list [] (object (number_cell (codes "x") 8 no_entries) (object (number_cell (codes "x") 9 no_entries) no_objects))
    (list [] no_objects no_entries)))))
    no_objects)) no_entries)

pub object_by_x : kept_object b (row_test (above 5 x)) items (levels_of fs) whole ≡ by_x
object_by_x = refl

pub left_by_x : map (record_object items (levels_of fs)) (filter_map (kept_along b (row_test (above 5 x))) (whole ∷ [])) ≡ by_x ∷ []
left_by_x = refl

-- where x IS NULL: the one a without b
abbrev by_absence : Object
by_absence = number_cell (codes "r") 83 (list [] (
    object (number_cell (codes "d") 32 (cell (codes "s") None (number_cell (codes "n") 0
    (list [] no_objects (list [] (object (number_cell (codes "c") 23 no_entries) no_objects) no_entries)))))
    no_objects) no_entries)

pub object_by_absence : kept_object b (row_test (is_null (path_value x))) items (levels_of fs) whole ≡ by_absence
object_by_absence = refl

-- where d > 32: all b and c of the one a
abbrev by_d : Object
by_d = number_cell (codes "r") 83 (list [] (
    object (number_cell (codes "d") 33 (number_cell (codes "s") 33 (number_cell (codes "n") 2
    (list [] (object (number_cell (codes "x") 2 no_entries) (object (number_cell (codes "x") 3 no_entries) no_objects))
    (list [] (object (number_cell (codes "c") 24 no_entries) no_objects) no_entries)))))
    no_objects) no_entries)

pub object_by_d : kept_object a (row_test (above 32 d)) items (levels_of fs) whole ≡ by_d
object_by_d = refl

-- where e > 41: each a, and one e
pub object_by_e : kept_object e (row_test (above 41 e)) (record { name = codes "r"; term = within sum (path_value e) [] } ∷ record { name = codes "e"; term = expression (path_value e) } ∷ record { name = codes "n"; term = within count (path_value x) [] } ∷ []) (levels_of fs) whole
    ≡ number_cell (codes "r") 42 (number_cell (codes "n") 6 (list [] (object (number_cell (codes "e") 42 no_entries) no_objects) no_entries))
object_by_e = refl
