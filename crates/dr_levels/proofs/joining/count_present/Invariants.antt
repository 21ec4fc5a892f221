use Rattle.std.proofs.Common.{◌≡◌, ◌≤◌, ◌+◌, length}
use Rattle.dr_levels.specs.Dense.{present}
use Rattle.dr_levels.proofs.joining.count_present.Given as goal

-- what is counted, and what is left
abbrev pub invariant-pieces : goal.invariant-pieces
invariant-pieces l = record { counted : l.count + present l.greatest l.rest ≡ present l.greatest l.levels; few : l.count + length l.rest ≤ length l.levels }

abbrev pub decreases-pieces : goal.decreases-pieces
decreases-pieces l = length l.rest
