use Rattle.std.proofs.Common.{◌≡◌, List, length, map}
use Rattle.dr_meaning.specs.Path.{Step}
use Rattle.dr_levels.specs.Views.{levels_pair}
use Rattle.dr_agreement.specs.Alone.{each_may_stand, IsShallowOf}
use Rattle.dr_agreement.proofs.shallow.Shallow.each_may_stand.Given as goal

-- all may if the others may
abbrev pub invariant-pieces : goal.invariant-pieces
invariant-pieces v = (p : List Step) → IsShallowOf p v.self → each_may_stand p 0 (map levels_pair v.levels) ≡ each_may_stand p v.before (map levels_pair v.rest)

abbrev pub decreases-pieces : goal.decreases-pieces
decreases-pieces v = length v.rest
