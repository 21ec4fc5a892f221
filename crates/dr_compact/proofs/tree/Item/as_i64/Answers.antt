use Rattle.dr_compact.proofs.LookLemmas.{no_i64}
use Rattle.dr_compact.proofs.tree.Item.as_i64.Goals as goal

pub returns-in_default : goal.returns-in_default
returns-in_default c = no_i64 c.args.self.now c.in_default.not-I64
