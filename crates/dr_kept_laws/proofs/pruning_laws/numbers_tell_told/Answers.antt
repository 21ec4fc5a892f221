use Rattle.dr_kept_laws.proofs.CountingLemmas.{numbers_tell_told}
use Rattle.dr_kept_laws.proofs.pruning_laws.numbers_tell_told.Goals as goal

pub returns : goal.returns
returns c = numbers_tell_told
