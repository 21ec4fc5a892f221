use Rattle.dr_group.proofs.MovingLemmas.{left_behind}
use Rattle.dr_group.proofs.merging.move_first.Goals as goal

pub returns-clause-left : goal.returns-clause-left
returns-clause-left c =
    let left = c.take_group-group.ensures.left in
    left_behind c.args.from.now.items c.take_group-group.new.groups.items c.args.order.now _ left.0 left.1 c.requires.some c.requires.numbers c.requires.ascending
