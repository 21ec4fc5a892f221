use Rattle.dr_compact.proofs.LookLemmas.{no_struct}
use Rattle.dr_compact.proofs.tree.Item.as_struct.Goals as goal

pub returns-in_default : goal.returns-in_default
returns-in_default c = no_struct c.args.self.now c.in_default.not-Struct
