-- The definition levels that the instances of a path's repeated fields have at least.
use Rattle.std.specs.Prelude.{◌≡◌, ◌<◌, ℕ, zero, suc, ◌+◌, ◌==◌, List, [], ◌∷◌, if◌then◌else◌}
use Rattle.std.specs.List.{slice_index_or}
use Rattle.dr_meaning.specs.Schema.{Repetition, required, optional, repeated, definition_count}
use Rattle.dr_meaning.specs.Path.{Step, max_definition}
use Rattle.dr_meaning.specs.OneColumn.{level_inside}
use Rattle.dr_meaning.specs.Column.{Triplet, triplet}
use Rattle.std.specs.Prelude.{None}
use Rattle.dr_levels.specs.declared.triplet.Levels.{Levels}
use Rattle.dr_file.specs.declared.floors.Floors.{Floors}
use Rattle.dr_file.specs.declared.shallow.Shallow.{Shallow}

-- a field at this level has a floor where it is repeated
abbrev pub with_floor : Repetition → ℕ → List ℕ → List ℕ
with_floor required n ls = ls
with_floor optional n ls = ls
with_floor repeated n ls = n ∷ ls

-- the floors of the repeated fields on a path, outermost first, where the fields above it give this level
abbrev pub floors_of : ℕ → List Step → List ℕ
floors_of n [] = []
floors_of n (s ∷ p) = with_floor s.repetition (n + definition_count s.repetition) (floors_of (n + definition_count s.repetition) p)

-- these are the floors of the path, and its greatest definition level
abbrev pub AreFloorsOf : List Step → Floors → Type 0
AreFloorsOf p f = (f.levels.items ≡ floors_of 0 p) × (f.greatest ≡ max_definition p)

-- a triplet of these levels without its value
abbrev pub bare : Levels → Triplet
bare l = triplet l.repetition l.definition None

-- a triplet without its value
abbrev pub strip : Triplet → Triplet
strip t = triplet t.repetition t.definition None

-- the definition level that the triplets have at least that a repetition level stands between
abbrev pub least_of : List Step → ℕ → ℕ
least_of p zero = 0
least_of p (suc j) = level_inside p j

-- these are they, of the repetition levels below 256
abbrev pub AreLeastOf : List Step → List ℕ → Type 0
AreLeastOf p ls = (r : ℕ) → r < 256 → slice_index_or ls r 0 ≡ least_of p r

-- the one of a repetition level, of a leaf that has few repeated fields
abbrev pub shallow_least : Shallow → ℕ → ℕ
shallow_least x r = if r == 0 then 0 else (if r == 1 then x.first else (if r == 2 then x.second else (if r == 3 then x.third else x.others)))

-- these are they, of the path of such a leaf
abbrev pub AreShallowOf : List Step → Shallow → Type 0
AreShallowOf p x = (r : ℕ) → shallow_least x r ≡ least_of p r
