use Rattle.std.proofs.Common.{◌≡◌, ◌≤◌, ◌&&◌, List, map, take, drop, None}
use Rattle.dr_meaning.specs.Path.{Step}
use Rattle.dr_meaning.specs.Column.{triplet}
use Rattle.dr_meaning.specs.OneColumn.{starts, all_follow}
use Rattle.dr_file.specs.Floors.{AreFloorsOf, bare}
use Rattle.dr_file.proofs.floors.Floors.follow_by_table.Given as goal

-- those before this one follow and are counted, and the others are left
abbrev pub invariant-levels : goal.invariant-levels
invariant-levels l = record {
  fits : (p : List Step) → AreFloorsOf p l.self → all_follow p (triplet 0 l.before None) (map bare l.levels) ≡ (l.fits && all_follow p (triplet 0 l.last None) (map bare (drop l.at l.levels)));
  counted : l.begun ≡ starts (map bare (take l.at l.levels));
  few : l.begun ≤ l.at;
}
