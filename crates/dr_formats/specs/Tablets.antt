-- Tablets: the records of a table in pieces, where the copies lie, and their paths.
use Rattle.std.specs.Prelude.{ℕ, zero, suc, ◌+◌, ◌-◌, ◌%◌, List, [], ◌∷◌, ◌++◌, length, replicate, codes}
use Rattle.std.specs.Fmt.{decimal}
use Rattle.dr_meaning.specs.Lists.{nth_text}

-- the records in order, n to a tablet, where the tablet that is being filled holds these and has room for so many more
abbrev pub tablets_from : {A : Type 0} → ℕ → ℕ → List A → List A → List (List A)
tablets_from n room held [] = held ∷ []
tablets_from n zero held (r ∷ rs) = held ∷ tablets_from n (n - 1) (r ∷ []) rs
tablets_from n (suc room) held (r ∷ rs) = tablets_from n room (held ++ r ∷ []) rs

-- the records in order, n to a tablet; at least one tablet
abbrev pub tablets : {A : Type 0} → ℕ → List A → List (List A)
tablets n rs = tablets_from n n [] rs

-- the leaf of the jth copy of a tablet, both from 0, where there are so many leaves
abbrev pub placement : ℕ → ℕ → ℕ → ℕ
placement leaves tablet j = (tablet + j) % leaves

-- a number in six digits, with zeros before it
abbrev pub six_digits : ℕ → List ℕ
six_digits n = replicate (6 - length (decimal n)) 48 ++ decimal n

-- `DIR/tNNNNNN.parquet`
abbrev pub tablet_path : List ℕ → ℕ → List ℕ
tablet_path directory tablet = directory ++ (codes "/t" ++ (six_digits tablet ++ codes ".parquet"))

-- the paths of so many copies of a tablet, from the jth on
abbrev pub copy_paths_from : List (List ℕ) → ℕ → ℕ → ℕ → List (List ℕ)
copy_paths_from directories tablet j zero = []
copy_paths_from directories tablet j (suc k) = tablet_path (nth_text directories (placement (length directories) tablet j)) tablet
    ∷ copy_paths_from directories tablet (suc j) k

-- the paths of a tablet's copies, in order
abbrev pub copy_paths : List (List ℕ) → ℕ → ℕ → List (List ℕ)
copy_paths directories copies tablet = copy_paths_from directories tablet 0 copies
