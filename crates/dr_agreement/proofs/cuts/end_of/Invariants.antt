use Rattle.std.proofs.Common.{◌≡◌, ◌≤◌, ◌+◌, length}
use Rattle.dr_levels.specs.Apart.{repetitions}
use Rattle.dr_agreement.specs.Cuts.{starts, IsCut}
use Rattle.std.proofs.Common.{ℕ}
use Rattle.dr_agreement.proofs.cuts.end_of.Given as goal

-- where what is left is cut, all is cut behind the others
abbrev pub invariant-pieces : goal.invariant-pieces
invariant-pieces l = record {
  within : length l.rest ≤ length l.levels;
  few : l.left ≤ starts (repetitions l.rest);
  cut : (at n : ℕ) → IsCut (repetitions l.rest) at l.left → n + length l.rest ≡ length l.levels → IsCut (repetitions l.levels) (n + at) l.records;
}

abbrev pub decreases-pieces : goal.decreases-pieces
decreases-pieces l = length l.rest
