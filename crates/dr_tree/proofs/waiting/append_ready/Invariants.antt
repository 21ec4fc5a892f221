use Rattle.dr_cells.specs.Rows.{rows_shape}
use Rattle.dr_tree.specs.Appending.{HaveMoved}
use Rattle.dr_tree.specs.Waiting.{AreShaped}
use Rattle.dr_tree.proofs.waiting.append_ready.Given as goal

abbrev pub invariant-firsts : goal.invariant-firsts
invariant-firsts l = HaveMoved l.initial.rows l.initial.waiting.items l.rows l.waiting.items × AreShaped (rows_shape l.rows) l.waiting.items
