use Rattle.std.proofs.Common.{◌≡◌, ◌≤◌, ◌+◌, length}
use Rattle.dr_levels.specs.Apart.{repetitions}
use Rattle.dr_agreement.specs.Cuts.{starts}
use Rattle.dr_agreement.proofs.cuts.count_begun.Given as goal

-- what is counted, and what is left
abbrev pub invariant-pieces : goal.invariant-pieces
invariant-pieces l = record { counted : l.begun + starts (repetitions l.rest) ≡ starts (repetitions l.levels); few : l.begun + length l.rest ≤ length l.levels }

abbrev pub decreases-pieces : goal.decreases-pieces
decreases-pieces l = length l.rest
