use Rattle.std.proofs.Common.{◌≡◌, ◌≤◌, take}
use Rattle.dr_levels.specs.Apart.{repetitions}
use Rattle.dr_agreement.specs.Cuts.{starts}
use Rattle.dr_agreement.proofs.cuts.end_among.Given as goal

-- no more records than these begin before this one
abbrev pub invariant-levels : goal.invariant-levels
invariant-levels l = record { counted : l.begun ≡ starts (take l.at (repetitions l.levels)); few : l.begun ≤ l.at; not_past : l.begun ≤ l.records }
