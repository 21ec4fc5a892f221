use Rattle.dr_kept_laws.proofs.ReadingTogether.{read_together}
use Rattle.dr_kept_laws.proofs.pruning_laws.read_together.Goals as goal

pub returns : goal.returns
returns c = read_together
