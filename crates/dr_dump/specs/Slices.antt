-- Slices of a file's columns: those of some records at a time.
use Rattle.std.specs.Prelude.{◌≡◌, ◌≤◌, ◌<◌, ◌⊎◌, ℕ, List, [], ◌++◌, length, get_or, true, Option, Some}
use Rattle.std.specs.List.{slice_get}
use Rattle.dr_meaning.specs.Path.{Leaf}
use Rattle.dr_meaning.specs.Record.{Node}
use Rattle.dr_meaning.specs.Column.{Triplet, column}
use Rattle.dr_meaning.specs.OneColumn.{begins_record}
use Rattle.dr_outside.specs.Link.{Files, LinkShown}
use Rattle.dr_file.specs.declared.opened.Opened.{Opened}
use Rattle.dr_dump.specs.Leaves.{rest_of, IsLeafRecords, IsTaken}
use Rattle.dr_dump.specs.declared.leaf_records.LeafRecords.{LeafRecords}

-- ---- where the leaves stand

-- a leaf gave its column of these records, and behind it what is left of its batch, which begins a record; where nothing is left, nothing comes, or it
-- stands before the first record
pub record IsBehind (held : Option Files) (o : Opened) (F : List Leaf) (l : Leaf) (R : List Node) (x : LeafRecords) : Type 0 where
  pub of : IsLeafRecords held o F l (column l.path R ++ rest_of x) x
  pub cut : begins_record (rest_of x) ≡ true
  pub ends : (R ≡ []) ⊎ (rest_of x ≡ [] → x.ended ≡ true)

-- each leaf
pub record AreBehind (held : Option Files) (o : Opened) (F : List Leaf) (R : List Node) (xs : List LeafRecords) : Type 0 where
  pub as_many : length xs ≡ length F
  pub each : (i : ℕ) (l : Leaf) (x : LeafRecords) → slice_get F i ≡ Some l → slice_get xs i ≡ Some x → IsBehind held o F l R x

-- what is said of a call, over whatever records behind which the leaves stand, where the link holds what it shows
abbrev pub OverBehind : LinkShown → List LeafRecords → (Opened → List Leaf → List Node → Type 0) → Type 0
OverBehind link xs says = (o : Opened) (F : List Leaf) (R : List Node) → AreBehind link.held o F R xs → says o F R

-- of the first n leaves, which stood behind these records, the next columns were taken, of at most k records
pub record AreTaken (held : Option Files) (o : Opened) (F : List Leaf) (R : List Node) (k n : ℕ) (xs ys : List LeafRecords) (C : List (List Triplet)) : Type 0 where
  pub as_many : length ys ≡ length xs
  pub so_many : length C ≡ n
  pub each : (i : ℕ) (l : Leaf) (x y : LeafRecords) → i < n → slice_get F i ≡ Some l → slice_get xs i ≡ Some x → slice_get ys i ≡ Some y
      → IsTaken held o F l (column l.path R) k x y (get_or C i [])
  pub others : (i : ℕ) → n ≤ i → slice_get ys i ≡ slice_get xs i
