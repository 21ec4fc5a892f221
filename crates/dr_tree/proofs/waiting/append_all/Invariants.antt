use Rattle.std.proofs.Common.{◌≡◌, length}
use Rattle.std.specs.List.{fold}
use Rattle.dr_partials.specs.Partials as meant
use Rattle.dr_cells.specs.Rows.{rows_shape}
use Rattle.dr_tree.specs.Places.{added}
use Rattle.dr_tree.specs.Waiting.{AreShaped, lines_of, places_of}
use Rattle.dr_tree.proofs.waiting.append_all.Given as goal

-- the lines that are left are still to be appended
abbrev pub invariant-waiting : goal.invariant-waiting
invariant-waiting l = (fold meant.merge (lines_of l.rows) (added (places_of l.waiting.items)) ≡ fold meant.merge (lines_of l.initial.rows) (added (places_of l.initial.waiting.items)))
    × (rows_shape l.rows ≡ rows_shape l.initial.rows) × AreShaped (rows_shape l.rows) l.waiting.items

abbrev pub decreases-waiting : goal.decreases-waiting
decreases-waiting l = length l.waiting.items
