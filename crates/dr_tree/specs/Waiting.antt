-- Lines that wait.
use Rattle.std.specs.Prelude.{◌≡◌, ⊤, List, [], ◌∷◌, map, Bool, true, false, Option, Some, None, option_map, IfSome}
use Rattle.std.specs.List.{list_all}
use Rattle.dr_partials.specs.Partials as meant
use Rattle.dr_cells.specs.Results.{ShapeTree}
use Rattle.dr_cells.specs.Rows.{rows_view, rows_shape}
use Rattle.dr_cells.specs.declared.rows.RowsOut.{RowsOut}
use Rattle.dr_tree.specs.Places.{Place}
use Rattle.dr_tree.specs.declared.waiting.Waiting.{Waiting}

abbrev pub lines_of : RowsOut → meant.Partial
lines_of r = meant.lines (rows_view r)

abbrev pub place_of : Waiting → Place
place_of w = record { tablet = w.tablet; piece = option_map lines_of w.lines }

abbrev pub places_of : List Waiting → List Place
places_of ws = map place_of ws

-- lines that wait have this shape
abbrev pub AreShaped : ShapeTree → List Waiting → Type 0
AreShaped s [] = ⊤
AreShaped s (w ∷ ws) = IfSome w.lines (λ r. rows_shape r ≡ s) × AreShaped s ws

abbrev pub is_some : Option meant.Partial → Bool
is_some None = false
is_some (Some r) = true

abbrev pub are_full : List Place → Bool
are_full ps = list_all (λ (p : Place). is_some p.piece) ps
