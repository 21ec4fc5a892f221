use Rattle.dr_top.proofs.GenEnds.{gen_accepted}
use Rattle.dr_top.proofs.laws.gen_refuses_nothing.Goals as goal

pub returns : goal.returns
returns c = gen_accepted
