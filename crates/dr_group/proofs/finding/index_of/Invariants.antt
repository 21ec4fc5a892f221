use Rattle.std.proofs.Common.{◌≡◌, ◌<◌, ◌++◌, drop, length}
use Rattle.dr_group.specs.Chains.{hashes_of}
use Rattle.dr_group.specs.Distinct.{group_hashes}
use Rattle.dr_group.proofs.finding.index_of.Given as goal

-- the groups from this one on are still to be indexed
abbrev pub invariant-groups : goal.invariant-groups
invariant-groups l = (hashes_of l.index.links.items ++ group_hashes (drop l.group-index l.groups) ≡ group_hashes l.groups) × (0 < length l.index.heads.items)
