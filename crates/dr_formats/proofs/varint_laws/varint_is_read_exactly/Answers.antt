use Rattle.dr_formats.proofs.VarintLemmas.{varint_is_read_exactly}
use Rattle.dr_formats.proofs.varint_laws.varint_is_read_exactly.Goals as goal

pub returns : goal.returns
returns c = varint_is_read_exactly
