use Rattle.dr_columns.proofs.PlanChunkLemmas.{chunks_are_put}
use Rattle.dr_columns.proofs.put_laws.chunks_are_put.Goals as goal

pub returns : goal.returns
returns c = chunks_are_put
