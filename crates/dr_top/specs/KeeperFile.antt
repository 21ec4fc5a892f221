-- Whole files that the keeper holds.
use Rattle.std.specs.Prelude.{◌≡◌, ◌<◌, ℕ, List, length, Option, Some}
use Rattle.dr_outside.specs.Link.{Files}
use Rattle.dr_input.specs.Taken.{WhereTold}

-- the file at a path has these bytes, where the keeper tells
abbrev pub IsFile : Option Files → List ℕ → List ℕ → Type 0
IsFile files path bytes = WhereTold files (λ fs. fs path ≡ Some bytes)

-- the file at a path has more than so many bytes
abbrev pub IsLongFile : Option Files → List ℕ → ℕ → Type 0
IsLongFile files path longest = WhereTold files (λ fs. (bytes : List ℕ) × (fs path ≡ Some bytes) × (longest < length bytes))
