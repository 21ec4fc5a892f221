use Rattle.std.proofs.Common.{◌≡◌, ◌+◌, ◌-◌, ◌∙◌, ap, arith}
use Rattle.std.proofs.lemmas.List.{length-map}
use Rattle.std.proofs.lemmas.Result.{IfOk-weaker}
use Rattle.dr_tree.specs.Fan.{all_grown}
use Rattle.dr_tree.specs.Views.{all_views, tree_view}
use Rattle.dr_tree.proofs.FanLemmas.{grown_next, grown_still}
use Rattle.dr_tree.proofs.fan.grow.Goals as goal
use Rattle.dr_tree.proofs.fan.grow.Goals.{then-len-gt1+in_ok-trees, else-len-gt1}

pub levels-preserved : goal.levels-preserved
levels-preserved c =
    let ts = c.levels.trees.items in
    let size = length-map ts tree_view in
    elim c.if-len-gt1.branch [
      | then-len-gt1+in_ok-trees w ↦ ap (λ xs. all_grown (c.args.levels - (c.levels.counter + 1)) c.args.more (all_views xs.items)) w.trees-is
          ∙ (grown_next c.args.levels c.levels.counter c.args.more (all_views ts) (all_views w.in_ok-trees.trees.items) c.levels-test.true (omega (arith, w.if-len-gt1.true, c.len.ensures, size, c.levels.trees.ok)) w.in_ok-trees.ensures ∙ c.levels.invariant)
      | else-len-gt1 w ↦ ap (λ xs. all_grown (c.args.levels - (c.levels.counter + 1)) c.args.more (all_views xs.items)) w.trees-is
          ∙ (grown_still c.args.levels c.levels.counter c.args.more (all_views ts) c.levels-test.true (omega (arith, w.if-len-gt1.false, c.len.ensures, size, c.levels.trees.ok)) ∙ c.levels.invariant)
    ]

pub returns : goal.returns
returns c =
    let none : 0 ≡ c.args.levels - c.levels.counter = omega (arith, c.levels-test.false) in
    IfOk-weaker c.one_server.result _ _ (λ t e. e ∙ (ap (λ n. all_grown n c.args.more (all_views c.levels.trees.items)) none ∙ c.levels.invariant)) (c.one_server.ensures c.args.more)
