-- A condition watched over moves, and where a branch is on its chain.
use Rattle.std.specs.Prelude.{ℕ, List, [], ◌∷◌, Bool, false, not, ◌&&◌, ◌||◌, ◌==◌, if◌then◌else◌, Option, Some, None}
use Rattle.dr_moves.specs.Context.{Context, with_value}
use Rattle.dr_moves.specs.Tour.{Tour, over, saw, inside, after}

-- a condition: the numbers of the repeated fields of its chain, the leaf that is the last to be read of it, and whether it is true
pub record Watch : Type 0 where
  pub chain : List ℕ
  pub last : ℕ
  pub test : Context → Bool

-- whether a row of these is true: one for each triplet of the last leaf
abbrev pub some_true : Watch → Context → Tour → Bool
some_true w c over = false
some_true w c (saw i t T) = ((i == w.last) && w.test (with_value i t.value c)) || some_true w (with_value i t.value c) T
some_true w c (inside k B T) = some_true w c B || some_true w (after c B) T

-- where a branch is on the chain: the rest of the chain, none off it
abbrev pub rest_below : ℕ → Option (List ℕ) → Option (List ℕ)
rest_below k None = None
rest_below k (Some []) = None
rest_below k (Some (j ∷ r)) = if k == j then Some r else None

-- a branch on the chain of which no row is true is dropped
abbrev pub is_dropped : Option (List ℕ) → Bool → Bool
is_dropped None hit = false
is_dropped (Some r) hit = not hit
