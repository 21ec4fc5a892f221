use Rattle.dr_kept_laws.proofs.ObjectsOfKeptLemmas.{object_of_kept}
use Rattle.dr_kept_laws.proofs.row_laws.object_of_kept.Goals as goal

pub returns : goal.returns
returns c = object_of_kept
