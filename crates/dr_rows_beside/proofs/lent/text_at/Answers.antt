use Rattle.dr_rows_beside.proofs.PlaceLemmas.{cut_text}
use Rattle.dr_rows_beside.proofs.lent.text_at.Goals as goal

pub from_utf8_unchecked-requires : goal.from_utf8_unchecked-requires
from_utf8_unchecked-requires c = cut_text c.args.bytes.now c.args.place c.requires
