use Rattle.dr_nested.specs.PathView.{paths_view}
use Rattle.dr_agreement.proofs.OutlinedLemmas.{found_more}
use Rattle.dr_agreement.proofs.outlines.neighbours_of.Goals as goal

pub leaves-preserved : goal.leaves-preserved
leaves-preserved c =
    found_more (paths_view c.args.leaves.now) c.leaves.leaf c.leaves.found.items c.push_found.new.found.items c.nearest.result c.in_ok-push_found.ensures c.nearest.ensures.leaf c.nearest.ensures.nearest c.leaves.invariant
