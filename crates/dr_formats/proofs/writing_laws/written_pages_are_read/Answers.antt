use Rattle.dr_formats.proofs.ChunkLemmas.{pages_keep_triplets, written_pages_are_read}
use Rattle.dr_formats.proofs.writing_laws.written_pages_are_read.Goals as goal

pub returns : goal.returns
returns c = record { kept = pages_keep_triplets; read = written_pages_are_read }
