use Rattle.std.proofs.Common.{subst, sym, ap, ◌∙◌}
use Rattle.std.specs.Str.{IsUtf8}
use Rattle.dr_levels.proofs.TextLemmas.{text_parts, sliced}
use Rattle.dr_cells.specs.Held.{is_cell}
use Rattle.dr_cells.proofs.cell.lend.Goals as goal

pub from_utf8_unchecked-requires : goal.from_utf8_unchecked-requires
from_utf8_unchecked-requires c =
    let p = c.in-Text.field-0 in
    let b = c.args.bytes.now in
    subst IsUtf8 (sym (sliced b p)) (text_parts b p (ap (is_cell b) (sym c.in-Text.is) ∙ c.requires)).1
