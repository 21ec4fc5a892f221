use Rattle.std.proofs.Common.{◌≡◌, ◌+◌, drop}
use Rattle.dr_formats.specs.Hybrid.{equal_front}
use Rattle.dr_hybrid.proofs.encoding.equal_near.Given as goal

abbrev pub invariant-loop-index : goal.invariant-loop-index
invariant-loop-index g l = equal_front l.value (g.T.Packable.numbers l.values) ≡ l.index + equal_front l.value (drop l.index (g.T.Packable.numbers l.values))
