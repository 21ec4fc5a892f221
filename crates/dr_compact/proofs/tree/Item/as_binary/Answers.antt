use Rattle.dr_compact.proofs.LookLemmas.{no_binary}
use Rattle.dr_compact.proofs.tree.Item.as_binary.Goals as goal

pub returns-in_default : goal.returns-in_default
returns-in_default c = no_binary c.args.self.now c.in_default.not-Binary
