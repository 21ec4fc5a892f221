-- Leaves that are selected once each.
use Rattle.std.specs.Prelude.{List, [], ◌∷◌, Bool, true, not, ◌&&◌}
use Rattle.dr_meaning.specs.Path.{Step, same_path}

-- a path that differs from each of these
abbrev pub differs : List Step → List (List Step) → Bool
differs p [] = true
differs p (q ∷ F) = not (same_path p q) && differs p F

-- paths of which no two are the same
abbrev pub all_differ : List (List Step) → Bool
all_differ [] = true
all_differ (p ∷ F) = differs p F && all_differ F
