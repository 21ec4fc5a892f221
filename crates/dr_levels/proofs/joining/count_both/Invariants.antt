use Rattle.std.proofs.Common.{◌≡◌, ◌≤◌, ◌/◌, List, map, take}
use Rattle.dr_levels.specs.declared.triplet.Levels.{Levels}
use Rattle.dr_levels.specs.Apart.{definitions}
use Rattle.dr_levels.specs.Dense.{present}
use Rattle.dr_levels.proofs.joining.count_both.Given as goal

-- the places before this one are counted
abbrev pub invariant-levels : goal.invariant-levels
invariant-levels l = record {
  counted : (ls : List Levels) → definitions ls ≡ map (λ n. n / 256) l.both → l.count ≡ present l.greatest (take l.at ls);
  few : l.count ≤ l.at;
}
