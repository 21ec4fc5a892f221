use Rattle.dr_kept_laws.proofs.PartTelling.{parts_tell_told}
use Rattle.dr_kept_laws.proofs.pruning_laws.parts_tell_told.Goals as goal

pub returns : goal.returns
returns c = parts_tell_told
