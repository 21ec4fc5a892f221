use Rattle.std.proofs.Common.{map}
use Rattle.dr_group.specs.Views.{lent_cell}
use Rattle.dr_group.specs.Chains.{bucket_of}
use Rattle.dr_group.proofs.FindLemmas.{OnTheWay}
use Rattle.dr_group.proofs.group_map.GroupMap.follow.Given as goal

-- none of the groups behind the rest of the chain has the key tuple
abbrev pub invariant-chain : goal.invariant-chain
invariant-chain l = OnTheWay (map lent_cell l.key) l.self.groups.items l.self.index.heads.items l.self.index.links.items (bucket_of l.self.index.heads.items l.hash) l.rest

abbrev pub decreases-chain : goal.decreases-chain
decreases-chain l = l.rest
