-- The cells of an object by the places of its level's items and the numbers of its lists.
use Rattle.std.specs.Prelude.{ℕ, List, [], ◌∷◌, map, length, Option, None, Some}
use Rattle.std.specs.List.{slice_get, flat_map}
use Rattle.dr_moves.specs.Context.{Context}
use Rattle.dr_kept_laws.specs.GroupFlow.{Reading}
use Rattle.dr_meaning.specs.Query.{RecordTerm, expression, within}
use Rattle.dr_meaning.specs.Record.{Value}
use Rattle.dr_made_laws.specs.ObjectFlow.{Made, taken, ReadItem, value_made, objects_for}
use Rattle.dr_cells.specs.Results.{ResultCell, value_cell, count_cell, result_cells}

abbrev pub cells_of_item : Context → List Made → ℕ → Option ReadItem → List ResultCell
cells_of_item c made j None = []
cells_of_item c made j (Some r) = value_cell (value_made r.item.term r.reading j c made) ∷ []

-- the value of the item at a place, where there is one
abbrev pub item_cells : List ReadItem → Context → List Made → ℕ → List ResultCell
item_cells rs c made j = cells_of_item c made j (slice_get rs j)

-- those of the items at some places
abbrev pub own_cells : List ReadItem → Context → List Made → List ℕ → List ResultCell
own_cells rs c made js = flat_map (item_cells rs c made) js

-- how many objects each list has, by the numbers of their levels
abbrev pub list_counts : List Made → List ℕ → List ResultCell
list_counts made ks = map (λ (k : ℕ). count_cell (length (objects_for k made))) ks

-- the cells of these objects
abbrev pub list_cells : List Made → List ℕ → List ResultCell
list_cells made ks = flat_map (λ (k : ℕ). result_cells (objects_for k made)) ks

-- ---- what is taken

abbrev pub taken_by : RecordTerm → Reading (Option Value) → Context → ℕ → List Made
taken_by (expression e) r c j = []
taken_by (within a e node) r c j = taken j (r.fires c) ∷ []

abbrev pub taken_of : Context → ℕ → Option ReadItem → List Made
taken_of c j None = []
taken_of c j (Some r) = taken_by r.item.term r.reading c j

-- the value that is taken for the aggregate of the item at a place, where there is one
abbrev pub taken_at : List ReadItem → Context → ℕ → List Made
taken_at rs c j = taken_of c j (slice_get rs j)
