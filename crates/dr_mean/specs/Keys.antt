-- Keys by the numbers of their leaves.
use Rattle.std.specs.Prelude.{ℕ, List, length, Bool, nat_lt}
use Rattle.std.specs.List.{list_all}
use Rattle.dr_meaning.specs.Path.{Leaf}

-- each is the number of a leaf
abbrev pub are_leaves : List Leaf → List ℕ → Bool
are_leaves ls keys = list_all (λ k. nat_lt k (length ls)) keys
