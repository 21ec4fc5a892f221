use Rattle.std.proofs.Common.{◌≡◌, ◌≤◌, ◌+◌, ◌-◌, length, drop}
use Rattle.dr_formats.specs.Hybrid.{equal_front}
use Rattle.dr_hybrid.proofs.encoding.equal_count.Given as goal

-- those that were looked at are equal
abbrev pub invariant-blocks-2 : goal.invariant-blocks-2
invariant-blocks-2 g l = (l.done ≤ length l.values) × (equal_front l.value (g.T.Packable.numbers l.values) ≡ l.done + equal_front l.value (drop l.done (g.T.Packable.numbers l.values)))

abbrev pub decreases-blocks-2 : goal.decreases-blocks-2
decreases-blocks-2 g l = length l.values + 1 - l.done
