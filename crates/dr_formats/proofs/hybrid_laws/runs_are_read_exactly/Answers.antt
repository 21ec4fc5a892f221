use Rattle.dr_formats.proofs.HybridGrammar.{runs_are_read_exactly}
use Rattle.dr_formats.proofs.hybrid_laws.runs_are_read_exactly.Goals as goal

pub returns : goal.returns
returns c = runs_are_read_exactly
