use Rattle.dr_group.specs.Chains.{head_of}
use Rattle.dr_group.proofs.ChainLemmas.{chain_ends}
use Rattle.dr_group.proofs.laws.chains_are_short.Goals as goal

pub returns : goal.returns
returns c = λ x b. chain_ends x.links.items (head_of x.heads.items b) x.short (x.linked.3 b)
