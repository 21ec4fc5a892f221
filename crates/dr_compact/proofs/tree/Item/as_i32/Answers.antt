use Rattle.dr_compact.proofs.LookLemmas.{no_i32}
use Rattle.dr_compact.proofs.tree.Item.as_i32.Goals as goal

pub returns-in_default : goal.returns-in_default
returns-in_default c = no_i32 c.args.self.now c.in_default.not-I32
