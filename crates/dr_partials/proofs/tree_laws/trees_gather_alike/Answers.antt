use Rattle.dr_partials.proofs.TreeLemmas.{gathered_is_partial, gathered_is_bounded, trees_gather_alike}
use Rattle.dr_partials.proofs.tree_laws.trees_gather_alike.Goals as goal

pub returns : goal.returns
returns c = record { partial = gathered_is_partial; bounded = gathered_is_bounded; alike = trees_gather_alike }
