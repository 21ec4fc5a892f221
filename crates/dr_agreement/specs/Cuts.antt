-- Levels cut where records begin.
use Rattle.std.specs.Prelude.{◌≡◌, ℕ, ◌+◌, ◌≤◌, List, [], ◌∷◌, length, take, drop, Bool, true, ◌==◌, if◌then◌else◌}

-- the first one, if there is one, begins a record
abbrev pub begins : List ℕ → Bool
begins [] = true
begins (r ∷ rs) = r == 0

-- how many of these repetition levels begin a record
abbrev pub starts : List ℕ → ℕ
starts [] = 0
starts (r ∷ rs) = (if r == 0 then 1 else 0) + starts rs

-- a record begins behind the first so many levels, which begin so many records
pub record IsCut (rs : List ℕ) (at records : ℕ) : Type 0 where
  pub within : at ≤ length rs
  pub before : starts (take at rs) ≡ records
  pub behind : begins (drop at rs) ≡ true
