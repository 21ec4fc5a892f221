use Rattle.dr_kept_laws.proofs.TourParts.{one_tour}
use Rattle.dr_kept_laws.proofs.pruning_laws.one_tour.Goals as goal

pub returns : goal.returns
returns c = one_tour
