use Rattle.std.proofs.Common.{◌≡◌, ◌&&◌, List, map, drop, None}
use Rattle.dr_meaning.specs.Path.{Step}
use Rattle.dr_meaning.specs.Column.{triplet}
use Rattle.dr_meaning.specs.OneColumn.{all_follow}
use Rattle.dr_levels.specs.declared.triplet.Levels.{Levels}
use Rattle.dr_levels.specs.Apart.{definitions, repetitions}
use Rattle.dr_file.specs.Floors.{bare, AreShallowOf}
use Rattle.dr_file.proofs.shallow.Shallow.parts_follow.Given as goal

-- those before this one follow, and the others are left
abbrev pub invariant-levels : goal.invariant-levels
invariant-levels v = (p : List Step) (ls : List Levels) → AreShallowOf p v.self → repetitions ls ≡ v.repetitions → definitions ls ≡ v.definitions → all_follow p (triplet 0 v.before None) (map bare ls) ≡ (v.fits && all_follow p (triplet 0 v.last None) (map bare (drop v.at ls)))
