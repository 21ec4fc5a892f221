use Rattle.std.proofs.Common.{◌≡◌, ◌≤◌, ◌%◌, map, take}
use Rattle.dr_agreement.specs.Cuts.{starts}
use Rattle.dr_agreement.proofs.cuts.count_both.Given as goal

-- those before this one are counted
abbrev pub invariant-levels : goal.invariant-levels
invariant-levels l = record { counted : l.begun ≡ starts (take l.at (map (λ n. n % 256) l.both)); few : l.begun ≤ l.at }
