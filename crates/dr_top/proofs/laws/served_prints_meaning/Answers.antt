use Rattle.dr_top.proofs.ServedTextLemmas.{served_prints_meaning}
use Rattle.dr_top.proofs.laws.served_prints_meaning.Goals as goal

pub returns : goal.returns
returns c = served_prints_meaning
