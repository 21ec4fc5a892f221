-- Laws of tablets.
use Rattle.std.specs.Prelude.{◌≡◌, ℕ, ◌<◌, ◌≤◌, List, [], ◌∷◌, ◌++◌, length}
use Rattle.dr_meaning.specs.Record.{Node}
use Rattle.dr_formats.specs.Tablets.{tablets, placement, tablet_path}

-- the records of tablets, one after another
abbrev pub all_records : List (List Node) → List Node
all_records [] = []
all_records (t ∷ ts) = t ++ all_records ts

-- there is a tablet, each but the last has n records, and the last at most n
abbrev pub AreFull : ℕ → List (List Node) → Type 0
AreFull n [] = ⊥
AreFull n (t ∷ []) = length t ≤ n
AreFull n (t ∷ u ∷ ts) = (length t ≡ n) × AreFull n (u ∷ ts)

-- tablets hold the records in order
abbrev pub TabletsHoldRecords : Type 0
TabletsHoldRecords = (n : ℕ) (R : List Node) → all_records (tablets n R) ≡ R

-- n to a tablet, where n isn't 0
abbrev pub TabletsAreFull : Type 0
TabletsAreFull = (n : ℕ) (R : List Node) → 0 < n → AreFull n (tablets n R)

-- the copies of a tablet lie on leaves that are there
abbrev pub PlacementIsLeaf : Type 0
PlacementIsLeaf = (leaves tablet j : ℕ) → 0 < leaves → placement leaves tablet j < leaves

-- on a leaf of its own each, where there are at most as many copies as leaves
abbrev pub PlacementsDiffer : Type 0
PlacementsDiffer = (leaves tablet i j : ℕ) → i < j → j < leaves → placement leaves tablet i ≡ placement leaves tablet j → ⊥

-- only the one tablet of no records is empty
abbrev pub NoneEmpty : List (List Node) → Type 0
NoneEmpty [] = Unit {0}
NoneEmpty (t ∷ ts) = (0 < length t) × NoneEmpty ts

abbrev pub TabletsAreNotEmpty : Type 0
TabletsAreNotEmpty = (n : ℕ) (r : Node) (R : List Node) → 0 < n → NoneEmpty (tablets n (r ∷ R))

-- two tablets of numbers of at most six digits have one path only where they are one tablet, in one directory
abbrev pub PathsDiffer : Type 0
PathsDiffer = (d e : List ℕ) (i j : ℕ) → i < 1000000 → j < 1000000 → tablet_path d i ≡ tablet_path e j → (i ≡ j) × (d ≡ e)
