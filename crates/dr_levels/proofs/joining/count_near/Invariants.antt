use Rattle.std.proofs.Common.{◌≡◌, ◌≤◌, take}
use Rattle.dr_levels.specs.Dense.{present}
use Rattle.dr_levels.proofs.joining.count_near.Given as goal

-- the places before this one are counted
abbrev pub invariant-levels : goal.invariant-levels
invariant-levels l = record { counted : l.count ≡ present l.greatest (take l.at l.levels); few : l.count ≤ l.at }
