-- Lines that are appended, and the places that are left.
use Rattle.std.specs.Prelude.{◌≡◌, ℕ, true, List, ◌++◌, slice_set, Option, Some, None}
use Rattle.std.specs.List.{fold}
use Rattle.dr_partials.specs.Partials as meant
use Rattle.dr_cells.specs.Rows.{rows_shape}
use Rattle.dr_cells.specs.declared.rows.RowsOut.{RowsOut}
use Rattle.dr_tree.specs.Places.{Place, added, filled}
use Rattle.dr_tree.specs.Waiting.{AreShaped, are_full, lines_of, places_of}
use Rattle.dr_tree.specs.declared.waiting.Waiting.{Waiting}

-- the place of this number, if one is given, takes the partial
abbrev pub filled_at : Option ℕ → ℕ → meant.Partial → List Place → List Place
filled_at None t r ps = ps
filled_at (Some i) t r ps = slice_set ps i (filled t r)

-- lines with those of a place behind them
abbrev pub with_lines : meant.Partial → Option RowsOut → meant.Partial
with_lines p None = p
with_lines p (Some r) = meant.merge p (lines_of r)

-- the lines of the first places, all of which have theirs, were appended, and these places taken out
pub record HaveMoved (r : RowsOut) (ws : List Waiting) (longer : RowsOut) (rest : List Waiting) : Type 0 where
  pub front : List Place
  pub split : places_of ws ≡ front ++ places_of rest
  pub full : are_full front ≡ true
  pub lines : lines_of longer ≡ fold meant.merge (lines_of r) (added front)
  pub shape : rows_shape longer ≡ rows_shape r
  pub shaped : AreShaped (rows_shape r) ws → AreShaped (rows_shape longer) rest
