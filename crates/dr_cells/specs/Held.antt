-- Held cells, whose texts lie in a buffer.
use Rattle.std.specs.Prelude.{ℕ, List, map, Bool, true, Some, None}
use Rattle.dr_meaning.specs.Record.{bool_value, int_value, text_value}
use Rattle.dr_levels.specs.Texts.{bytes_at, is_text, moved}
use Rattle.dr_cells.specs.Results.{ResultCell, value_cell, count_cell}
use Rattle.dr_cells.specs.declared.cell.Cell.{Cell}

-- a cell whose text, if it is one, lies in a buffer
abbrev pub cell_view : List ℕ → Cell → ResultCell
cell_view bytes Cell.Null = value_cell None
cell_view bytes (Cell.Bool b) = value_cell (Some (bool_value b))
cell_view bytes (Cell.Int z) = value_cell (Some (int_value z))
cell_view bytes (Cell.Text p) = value_cell (Some (text_value (bytes_at bytes p)))
cell_view bytes (Cell.Count n) = count_cell n

-- the text of the cell, if it is one, lies in the buffer
abbrev pub is_cell : List ℕ → Cell → Bool
is_cell bytes Cell.Null = true
is_cell bytes (Cell.Bool b) = true
is_cell bytes (Cell.Int z) = true
is_cell bytes (Cell.Text p) = is_text bytes p
is_cell bytes (Cell.Count n) = true

-- the cell, where its text lies behind so many more bytes
abbrev pub moved_cell : ℕ → Cell → Cell
moved_cell n Cell.Null = Cell.Null
moved_cell n (Cell.Bool b) = Cell.Bool b
moved_cell n (Cell.Int z) = Cell.Int z
moved_cell n (Cell.Text p) = Cell.Text (moved n p)
moved_cell n (Cell.Count k) = Cell.Count k

-- cells whose texts lie in one buffer
abbrev pub cells_in : List ℕ → List Cell → List ResultCell
cells_in bytes cs = map (cell_view bytes) cs
