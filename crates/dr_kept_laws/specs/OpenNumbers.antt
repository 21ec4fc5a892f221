-- The numbers of what is open where a leaf is read.
use Rattle.std.specs.Prelude.{◌≡◌, ℕ, List, [], ◌∷◌, reverse, Bool, true, false, ◌&&◌, ◌==◌, if◌then◌else◌, Some}
use Rattle.std.specs.List.{list_all, slice_get}
use Rattle.dr_meaning.specs.Schema.{Fields}
use Rattle.dr_meaning.specs.Path.{Step, is_leaf_path}
use Rattle.dr_meaning.specs.Record.{Node, is_record}
use Rattle.dr_meaning.specs.Walk.{Move, enter, value, leave, walk}
use Rattle.dr_kept_laws.specs.ChainNumbers.{chain_numbers}

-- out of the innermost
abbrev pub rest_open : List ℕ → List ℕ
rest_open [] = []
rest_open (k ∷ open_ones) = open_ones

-- at each triplet of leaf i, the outermost first; so many are open before, the innermost first
abbrev pub open_at : ℕ → List ℕ → List Move → List (List ℕ)
open_at i open_ones [] = []
open_at i open_ones (enter k ∷ ms) = open_at i (k ∷ open_ones) ms
open_at i open_ones (value j t ∷ ms) = if j == i then reverse open_ones ∷ open_at i open_ones ms else open_at i open_ones ms
open_at i open_ones (leave k ∷ ms) = open_at i (rest_open open_ones) ms

-- whether the first list is the first part of the second
abbrev pub is_front : List ℕ → List ℕ → Bool
is_front [] N = true
is_front (k ∷ K) [] = false
is_front (k ∷ K) (j ∷ N) = (k == j) && is_front K N

-- where a leaf is read the record is open, and in it the first repeated fields of the leaf's chain, and nothing else
abbrev pub OpenOnChain : Type 0
OpenOnChain = (fs : Fields) (F : List (List Step)) (i : ℕ) (p : List Step) (R : List Node) → list_all (is_leaf_path fs) F ≡ true → slice_get F i ≡ Some p
    → list_all (is_record fs) R ≡ true → list_all (λ open_ones. is_front open_ones (0 ∷ chain_numbers fs p)) (open_at i [] (walk fs F R)) ≡ true
