use Rattle.std.proofs.Common.{◌≡◌}
use Rattle.dr_levels.specs.Views.{column_form}
use Rattle.dr_page.specs.Views.{shape_form}
use Rattle.dr_page.specs.PageReading.{reader_form}
use Rattle.dr_calls.proofs.pages.pieces_text.Given as goal

-- the column and the reader are of the page's leaf
abbrev pub invariant-pieces : goal.invariant-pieces
invariant-pieces l = (column_form l.column ≡ shape_form l.shape) × (reader_form l.reader ≡ shape_form l.shape)
