use Rattle.std.proofs.Common.{◌≡◌, ◌≤◌, List, map, take}
use Rattle.dr_meaning.specs.OneColumn.{starts}
use Rattle.dr_levels.specs.declared.triplet.Levels.{Levels}
use Rattle.dr_levels.specs.Apart.{repetitions}
use Rattle.dr_file.specs.Floors.{bare}
use Rattle.dr_file.proofs.shallow.count_zeros.Given as goal

-- those before this one are counted
abbrev pub invariant-levels : goal.invariant-levels
invariant-levels l = record {
  counted : (ls : List Levels) → repetitions ls ≡ l.repetitions → l.begun ≡ starts (map bare (take l.at ls));
  few : l.begun ≤ l.at;
}
