use Rattle.dr_moves.proofs.TourLemmas.{walk_tour}
use Rattle.dr_moves.proofs.kept_laws.walk_is_tour.Goals as goal

pub returns : goal.returns
returns c = walk_tour
