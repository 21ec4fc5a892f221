use Rattle.std.proofs.Common.{◌∙◌, sym}
use Rattle.dr_rows_beside.specs.Rows.{slots_view}
use Rattle.dr_rows_beside.specs.RowsView.{all_rows_view}
use Rattle.dr_rows_beside.proofs.PickedLemmas.{no_more_rows}
use Rattle.dr_rows_beside.proofs.rows.Rows.next.Goals as goal

pub returns : goal.returns
returns c =
    sym c.rows.invariant
    ∙ no_more_rows (all_rows_view c.rows.self) (all_rows_view c.read.new.self) (slots_view c.read.new.self.slots.items) c.read.result c.rows.self.bits.now c.read.ensures.row c.in_default.not-Some
