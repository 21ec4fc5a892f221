-- A scan of a table: which leaves of its tablets are read, and what is printed of their records.
use Rattle.std.specs.Prelude.{ℕ, zero, suc, List, [], ◌∷◌, ◌++◌, length, map}
use Rattle.dr_meaning.specs.Schema.{Schema}
use Rattle.dr_meaning.specs.Path.{Leaf}
use Rattle.dr_meaning.specs.Record.{Node}
use Rattle.dr_formats.specs.Tablets.{placement, tablet_path}
use Rattle.dr_formats.specs.TableFile.{Table}
use Rattle.dr_meaning.specs.Lists.{nth_text}

-- a copy of a tablet: the number of the leaf directory that it lies in, and its path
pub record Copy : Type 0 where
  pub directory : ℕ
  pub path : List ℕ

abbrev pub copy_paths : List Copy → List (List ℕ)
copy_paths cs = map (λ (c : Copy). c.path) cs

-- a scan: of each tablet its copies, in the order in which they are tried
pub record Scan : Type 0 where
  pub schema : Schema
  pub leaves : List Leaf
  pub tablets : List (List Copy)
  -- what is printed of the records of all tablets, in order
  pub text : List Node → List ℕ

-- the copy of a tablet in a directory
abbrev pub copy_in : List (List ℕ) → ℕ → ℕ → Copy
copy_in directories tablet d = record { directory = d; path = tablet_path (nth_text directories d) tablet }

-- so many copies of a tablet, from the jth on
abbrev pub copies_from : List (List ℕ) → ℕ → ℕ → ℕ → List Copy
copies_from directories tablet j zero = []
copies_from directories tablet j (suc k) = copy_in directories tablet (placement (length directories) tablet j) ∷ copies_from directories tablet (suc j) k

-- so many tablets, of which the first has this number
abbrev pub tablets_from : List (List ℕ) → ℕ → ℕ → ℕ → List (List Copy)
tablets_from directories copies tablet zero = []
tablets_from directories copies tablet (suc n) = copies_from directories tablet 0 copies ∷ tablets_from directories copies (suc tablet) n

-- the tablets of a table
abbrev pub tablets_of : Table → List (List Copy)
tablets_of t = tablets_from t.leaves t.copies 0 t.tablets

-- lists, one after another
abbrev pub joined : List (List Node) → List Node
joined [] = []
joined (R ∷ Rs) = R ++ joined Rs
