use Rattle.dr_plan.specs.Planned.{plan_view}
use Rattle.dr_tree.specs.Views.{tree_view}
use Rattle.dr_tree.proofs.GrowLemmas.{starts}
use Rattle.dr_tree.proofs.growing.Growing.new.Goals as goal

pub returns : goal.returns
returns c =
    λ fs. starts (plan_view c.args.plan.now) fs (tree_view c.args.tree.now) (record { grown = c.in_ok-grown.grown; subtrees = c.in_ok-subtrees.subtrees; waiting = c.in_ok-waiting.waiting }) c.in_ok-grown.ensures.partial
    c.in_ok-grown.ensures.of_plan c.in_ok-subtrees.ensures c.in_ok-waiting.ensures
