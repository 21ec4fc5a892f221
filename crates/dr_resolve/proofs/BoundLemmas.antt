-- Lists of bound paths.
use Rattle.std.proofs.Common.{List, [], ◌∷◌, ◌++◌}
use Rattle.dr_meaning.specs.Schema.{Fields}
use Rattle.dr_meaning.specs.Path.{Leaf}
use Rattle.dr_meaning.specs.BoundExpression as meant
use Rattle.dr_resolve.specs.Bound.{Covers, AreReal}

pub covers_parts : (ls : List Leaf) (ps qs : List meant.BoundPath) → Covers ls (ps ++ qs) → Covers ls ps × Covers ls qs
covers_parts ls [] qs h = (tt, h)
covers_parts ls (p ∷ ps) qs h = let r = covers_parts ls ps qs h.1 in ((h.0, r.0), r.1)

pub real_joined : (fs : Fields) (ps qs : List meant.BoundPath) → AreReal fs ps → AreReal fs qs → AreReal fs (ps ++ qs)
real_joined fs [] qs h k = k
real_joined fs (p ∷ ps) qs h k = (h.0, real_joined fs ps qs h.1 k)
