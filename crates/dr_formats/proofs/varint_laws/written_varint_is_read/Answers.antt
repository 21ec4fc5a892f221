use Rattle.dr_formats.proofs.VarintLemmas.{written_varint_is_read, written_varint_is_shortest}
use Rattle.dr_formats.proofs.varint_laws.written_varint_is_read.Goals as goal

pub returns : goal.returns
returns c = record { read = written_varint_is_read; shortest = written_varint_is_shortest }
