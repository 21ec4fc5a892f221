use Rattle.std.proofs.Common.{◌≡◌, ◌&&◌, List, map, drop}
use Rattle.dr_meaning.specs.Path.{Step}
use Rattle.dr_levels.specs.Views.{levels_pair}
use Rattle.dr_levels.specs.declared.triplet.Levels.{Levels}
use Rattle.dr_levels.specs.Apart.{definitions, repetitions}
use Rattle.dr_agreement.specs.Alone.{each_may_stand, IsShallowOf}
use Rattle.dr_agreement.proofs.shallow.Shallow.parts_may_stand.Given as goal

-- those before this one may, and the others are left
abbrev pub invariant-levels : goal.invariant-levels
invariant-levels v = (p : List Step) (ls : List Levels) → IsShallowOf p v.self → repetitions ls ≡ v.repetitions → definitions ls ≡ v.definitions → each_may_stand p v.before (map levels_pair ls) ≡ (v.fits && each_may_stand p v.last (map levels_pair (drop v.at ls)))
