use Rattle.dr_kept_laws.proofs.ExpressionChains.{expressions_are_of_chains}
use Rattle.dr_kept_laws.proofs.row_laws.expressions_are_of_chains.Goals as goal

pub returns : goal.returns
returns c = expressions_are_of_chains
