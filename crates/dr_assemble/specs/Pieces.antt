-- The pieces of a column, by its repetition levels.
use Rattle.std.specs.Prelude.{ℕ, suc, List, [], ◌∷◌, Bool, false, ◌==◌, nat_lt, if◌then◌else◌}
use Rattle.dr_meaning.specs.Path.{Step}
use Rattle.dr_levels.specs.declared.triplet.Levels.{Levels}

abbrev pub repetition_of : Levels → ℕ
repetition_of l = l.repetition

-- how many come before the next of at most l
abbrev pub above_length : ℕ → List ℕ → ℕ
above_length l [] = 0
above_length l (r ∷ rs) = if nat_lt l r then suc (above_length l rs) else 0

-- how many are at most l
abbrev pub below_count : ℕ → List ℕ → ℕ
below_count l [] = 0
below_count l (r ∷ rs) = if nat_lt l r then below_count l rs else suc (below_count l rs)

-- the path goes on through the field at a place
abbrev pub begins_at : ℕ → List Step → Bool
begins_at k [] = false
begins_at k (s ∷ p) = s.place == k
