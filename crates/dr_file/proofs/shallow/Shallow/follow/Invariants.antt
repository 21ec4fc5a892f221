use Rattle.std.proofs.Common.{◌≡◌, ◌≤◌, ◌+◌, ◌&&◌, List, length, map, None}
use Rattle.dr_meaning.specs.Path.{Step}
use Rattle.dr_meaning.specs.Column.{triplet}
use Rattle.dr_meaning.specs.OneColumn.{all_follow, starts}
use Rattle.dr_file.specs.Floors.{bare, AreShallowOf}
use Rattle.dr_file.proofs.shallow.Shallow.follow.Given as goal

-- those before the rest follow and are counted, and the rest is left
abbrev pub invariant-pieces : goal.invariant-pieces
invariant-pieces v = record {
  fits : (p : List Step) → AreShallowOf p v.self → all_follow p (triplet 0 v.before None) (map bare v.levels) ≡ (v.fits && all_follow p (triplet 0 v.last None) (map bare v.rest));
  counted : v.begun + starts (map bare v.rest) ≡ starts (map bare v.levels);
  few : v.begun + length v.rest ≤ length v.levels;
}

abbrev pub decreases-pieces : goal.decreases-pieces
decreases-pieces v = length v.rest
