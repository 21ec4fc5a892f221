-- Comparing strips of one leaf.
use Rattle.std.specs.Prelude.{◌≡◌, List, ◌++◌, Bool, true, false, Option, Some, None}
use Rattle.dr_meaning.specs.Path.{same_path}
use Rattle.dr_meaning.specs.Column.{Triplet}
use Rattle.dr_assemble.specs.Restoring.{Strip}
use Rattle.dr_assemble.specs.declared.distinct.Beside.{Beside}

-- these came next and have been passed; or they don't come next
abbrev pub Passes : List Triplet → List Triplet → List Triplet → Bool → Type 0
Passes ts before after true = before ≡ ts ++ after
Passes ts before after false = (us : List Triplet) → before ≡ ts ++ us → ⊥

-- of a strip that is of the same leaf as the last that was kept
abbrev pub IsBeside : Strip → Strip → Beside → Type 0
IsBeside k s Beside.New = same_path k.rest s.rest ≡ false
IsBeside k s Beside.Same = (same_path k.rest s.rest ≡ true) × (k.triplets ≡ s.triplets)
IsBeside k s Beside.Other = (same_path k.rest s.rest ≡ true) × (k.triplets ≡ s.triplets → ⊥)

-- what a strip is beside the last that was kept, if any was
abbrev pub Compares : Option Strip → Strip → Beside → Type 0
Compares None s b = b ≡ Beside.New
Compares (Some k) s b = IsBeside k s b
