use Rattle.dr_query_laws.proofs.DeepestChains.{deepest_is_longest}
use Rattle.dr_query_laws.proofs.chain_laws.deepest_chain_is_longest.Goals as goal

pub returns : goal.returns
returns c = deepest_is_longest
