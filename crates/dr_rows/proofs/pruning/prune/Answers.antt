use Rattle.std.proofs.Common.{◌∙◌, map}
use Rattle.dr_nested.specs.PathView.{step_view}
use Rattle.dr_nested.specs.Views.{node_view}
use Rattle.dr_rows.proofs.KeptLemmas.{pruned_by_test}
use Rattle.dr_rows.proofs.pruning.prune.Goals as goal

pub returns : goal.returns
returns c = λ test e. c.prune_node.ensures.kept ∙ pruned_by_test (map step_view c.args.chain.now) (node_view c.args.whole.now) test c.args.answers.now e
