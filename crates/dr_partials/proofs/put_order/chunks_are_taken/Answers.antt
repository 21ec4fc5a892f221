use Rattle.dr_partials.proofs.ChunkPutLemmas.{chunks_are_taken}
use Rattle.dr_partials.proofs.put_order.chunks_are_taken.Goals as goal

pub returns : goal.returns
returns c = chunks_are_taken
