use Rattle.dr_scan.proofs.TruthLemmas.{true_of_more_copies}
use Rattle.dr_scan.proofs.laws.true_of_more_copies.Goals as goal

pub returns : goal.returns
returns c = true_of_more_copies
