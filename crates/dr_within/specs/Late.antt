-- Rows that aren't put yet.
use Rattle.std.specs.Prelude.{◌≡◌, ◌*◌, ℕ, List, [], ◌∷◌, map, length, take, drop, Option, Some, None}
use Rattle.dr_meaning.specs.Record.{Value}
use Rattle.dr_cells.specs.Results.{ResultCell, value_cell, count_cell}
use Rattle.dr_cells.specs.Views.{cells_view}
use Rattle.dr_partials.specs.Putting.{Taken, Put}
use Rattle.dr_within.specs.declared.late.LateRows.{LateRows}

-- the value in a cell; a count is none
abbrev pub cell_value : ResultCell → Option Value
cell_value (value_cell v) = v
cell_value (count_cell n) = None

abbrev pub cell_values : List ResultCell → List (Option Value)
cell_values cs = map cell_value cs

-- the first of some values
abbrev pub first_of : List (Option Value) → Option Value
first_of [] = None
first_of (v ∷ vs) = v

-- a value that is taken for an aggregate, if for one
abbrev pub taken_for : Option ℕ → Option Value → Option Taken
taken_for None v = None
taken_for (Some i) v = Some (record { aggregate = i; value = v })

-- for each row's aggregate its value
abbrev pub all_taken : List (Option ℕ) → List (Option Value) → List (Option Taken)
all_taken [] vs = []
all_taken (o ∷ os) vs = taken_for o (first_of vs) ∷ all_taken os (drop 1 vs)

-- what is put of rows whose key tuples have so many cells each, one row's behind another's
abbrev pub late_puts : ℕ → List (Option Value) → List (Option Taken) → List Put
late_puts n cells [] = []
late_puts n cells (t ∷ ts) = record { keys = take n cells; taken = t } ∷ late_puts n (drop n cells) ts

-- by the cells of their key tuples, their aggregates, and the cells of what was taken
abbrev pub puts_view : ℕ → List ResultCell → List (Option ℕ) → List ResultCell → List Put
puts_view n cells aggregates taken = late_puts n (cell_values cells) (all_taken aggregates (cell_values taken))

-- there are so many cells for each row, and no more
abbrev pub IsWhole : LateRows → Type 0
IsWhole r = (length (cells_view r.cells) ≡ length r.aggregates.items * r.width) × (length (cells_view r.taken) ≡ length r.aggregates.items)

abbrev pub rows_of : LateRows → List Put
rows_of r = puts_view r.width (cells_view r.cells) r.aggregates.items (cells_view r.taken)
