use Rattle.dr_tree.proofs.PileLemmas.{two_can_be, two_stay}
use Rattle.dr_tree.proofs.halved.merged.Goals as goal

pub merge-requires-clause-mine : goal.merge-requires-clause-mine
merge-requires-clause-mine c = (two_can_be c.args.mine c.args.theirs c.requires).0

pub merge-requires-clause-theirs : goal.merge-requires-clause-theirs
merge-requires-clause-theirs c = (two_can_be c.args.mine c.args.theirs c.requires).1

pub returns : goal.returns
returns c = two_stay c.args.mine c.args.theirs c.merge.new.self c.in_ok-merge.ensures.groups c.merge.ensures.gatherings
