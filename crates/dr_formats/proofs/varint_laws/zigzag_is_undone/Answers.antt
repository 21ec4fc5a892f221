use Rattle.dr_formats.proofs.VarintLemmas.{zigzag_is_undone}
use Rattle.dr_formats.proofs.varint_laws.zigzag_is_undone.Goals as goal

pub returns : goal.returns
returns c = zigzag_is_undone
