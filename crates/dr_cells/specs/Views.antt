-- What cells stand for.
use Rattle.std.specs.Prelude.{◌≡◌, ℕ, List, slice_set, Some, None, Result, Ok, Err}
use Rattle.dr_memory.specs.declared.NoMemory.{NoMemory}
use Rattle.dr_meaning.specs.Record.{bool_value, int_value, text_value}
use Rattle.dr_cells.specs.Results.{ResultCell, value_cell, count_cell}
use Rattle.dr_cells.specs.Held.{cells_in}
use Rattle.dr_cells.specs.declared.cell.CellRef.{CellRef}
use Rattle.dr_cells.specs.declared.cells.Cells.{Cells}

-- the cells, in order
abbrev pub cells_view : Cells → List ResultCell
cells_view cs = cells_in cs.bytes.items cs.cells.items

-- a cell that is lent
abbrev pub lent_cell : CellRef → ResultCell
lent_cell CellRef.Null = value_cell None
lent_cell (CellRef.Bool b) = value_cell (Some (bool_value b))
lent_cell (CellRef.Int z) = value_cell (Some (int_value z))
lent_cell (CellRef.Text t) = value_cell (Some (text_value t.now))
lent_cell (CellRef.Count n) = count_cell n

-- this cell took the place of the one of a number, or nothing did
abbrev pub Replaces : List ResultCell → List ResultCell → ℕ → ResultCell → Result (Unit {0}) NoMemory → Type 0
Replaces before after number c (Ok done) = after ≡ slice_set before number c
Replaces before after number c (Err e) = after ≡ before
