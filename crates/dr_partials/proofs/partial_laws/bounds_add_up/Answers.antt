use Rattle.dr_partials.proofs.BoundsLemmas.{gathered_can_be_of, bounds_add_up}
use Rattle.dr_partials.proofs.partial_laws.bounds_add_up.Goals as goal

pub returns : goal.returns
returns c = record { gathered = gathered_can_be_of; merged = bounds_add_up }
