-- What was read last of each leaf, and the contexts in which the triplets of a leaf are given.
use Rattle.std.specs.Prelude.{ℕ, List, [], ◌∷◌, ◌==◌, if◌then◌else◌, Option}
use Rattle.dr_meaning.specs.Record.{Value}
use Rattle.dr_meaning.specs.Walk.{Move, enter, value, leave}

-- the value that was read last of each leaf
abbrev pub Context : Type 0
Context = ℕ → Option Value

-- one more value is read
abbrev pub with_value : ℕ → Option Value → Context → Context
with_value i v c k = if i == k then v else c k

-- the context at each triplet of leaf i, that triplet read
abbrev pub contexts : ℕ → Context → List Move → List Context
contexts i c [] = []
contexts i c (enter k ∷ ms) = contexts i c ms
contexts i c (value j t ∷ ms) = if j == i then with_value j t.value c ∷ contexts i (with_value j t.value c) ms else contexts i (with_value j t.value c) ms
contexts i c (leave k ∷ ms) = contexts i c ms
