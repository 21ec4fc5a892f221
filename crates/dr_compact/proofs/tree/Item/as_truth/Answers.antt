use Rattle.dr_compact.proofs.LookLemmas.{no_truth}
use Rattle.dr_compact.proofs.tree.Item.as_truth.Goals as goal

pub returns-in_default : goal.returns-in_default
returns-in_default c = no_truth c.args.self.now c.in_default.not-Truth
