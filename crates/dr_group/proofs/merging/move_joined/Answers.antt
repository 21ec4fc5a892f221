use Rattle.dr_group.proofs.MovingLemmas.{left_behind}
use Rattle.dr_group.proofs.merging.move_joined.Goals as goal

pub returns-clause-mine : goal.returns-clause-mine
returns-clause-mine c =
    let left = c.take_group-group.ensures.left in
    left_behind c.args.mine.now.items c.take_group-group.new.groups.items c.args.my_order.now _ left.0 left.1 c.requires.mine c.requires.my_numbers c.requires.my_ascending

pub returns-clause-theirs : goal.returns-clause-theirs
returns-clause-theirs c =
    let left = c.take_group-other.ensures.left in
    left_behind c.args.theirs.now.items c.take_group-other.new.groups.items c.args.their_order.now _ left.0 left.1 c.requires.theirs c.requires.their_numbers c.requires.their_ascending
