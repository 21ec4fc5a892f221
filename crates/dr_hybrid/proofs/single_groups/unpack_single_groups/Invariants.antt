use Rattle.std.proofs.Common.{◌-◌, length}
use Rattle.dr_hybrid.proofs.GroupLemmas.{Groups}
use Rattle.dr_hybrid.proofs.single_groups.unpack_single_groups.Given as goal

abbrev pub invariant-runs : goal.invariant-runs
invariant-runs g l = Groups l.width l.bytes (g.T.Packable.numbers l.out) l.groups l.place

abbrev pub decreases-runs : goal.decreases-runs
decreases-runs g l = length l.initial.out - l.groups
