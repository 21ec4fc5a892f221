use Rattle.dr_board.specs.Tablets.{leaf_after, new_leaf}
use Rattle.dr_board.proofs.MarkLemmas.{change_more}
use Rattle.dr_board.proofs.tablet.mark.Goals as goal

pub leaves-preserved : goal.leaves-preserved
leaves-preserved c =
    change_more (leaf_after c.args.failed c.args.leaf) c.args.leaves.now c.leaves.leaves c.leaves.state-index (new_leaf 0) c.marked_on.result c.leaves-test.true c.leaves.invariant c.marked_on.ensures
