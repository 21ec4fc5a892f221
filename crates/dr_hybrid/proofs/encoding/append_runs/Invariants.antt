use Rattle.std.proofs.Common.{length, ◌-◌}
use Rattle.dr_hybrid.proofs.PackLemmas.{Written}
use Rattle.dr_hybrid.proofs.encoding.append_runs.Given as goal

abbrev pub invariant-runs : goal.invariant-runs
invariant-runs g l = Written l.width (g.T.Packable.numbers l.values) l.fn.out.items l.out.items l.done

abbrev pub decreases-runs : goal.decreases-runs
decreases-runs g l = length l.values - l.done
