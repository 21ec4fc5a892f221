-- The columns of a file's leaves, some records at a time: what their streams gave, and what a link is asked for that.
use Rattle.std.specs.Prelude.{◌≡◌, ◌≢◌, ◌≤◌, ◌+◌, ◌-◌, ℕ, List, [], ◌∷◌, ◌++◌, length, drop, Bool, true, Option, Some, None, Result, IfErr, slice_set, Vec}
use Rattle.std.specs.declared.alloc.Global.{Global}
use Rattle.std.specs.List.{flat_map, slice_get}
use Rattle.dr_meaning.specs.Path.{Leaf}
use Rattle.dr_meaning.specs.Column.{Triplet}
use Rattle.dr_meaning.specs.OneColumn.{starts, begins_record}
use Rattle.dr_formats.specs.File.{Footer, footer_of, leaves_read}
use Rattle.dr_formats.specs.Opening.{leaf_cause, leaf_ranges}
use Rattle.dr_levels.specs.Views.{column_view}
use Rattle.dr_levels.specs.declared.column.Column.{Column}
use Rattle.dr_outside.specs.Link.{Files, LinkShown}
use Rattle.dr_outside.specs.Telling.{TellsFile, AsksOnly}
use Rattle.dr_chunk.specs.Ranges.{is_read_inside}
use Rattle.dr_file.specs.Asking.{is_for_path}
use Rattle.dr_file.specs.Leaving.{LeavesLinkCounted, ServesOpened}
use Rattle.dr_file.specs.OpenedFiles.{IsOpened, IsColumnOf, IsColumnFault, path_of}
use Rattle.dr_file.specs.Streams.{IsStreamOf, file_of, refused_of}
use Rattle.dr_file.specs.declared.opened.Opened.{Opened}
use Rattle.dr_file.specs.declared.file_fault.FileFault.{FileFault}
use Rattle.dr_dump.specs.declared.leaf_records.LeafRecords.{LeafRecords}

-- ---- what is at hand

-- the last so many of some triplets
abbrev pub last_of : ℕ → List Triplet → List Triplet
last_of n ts = drop (length ts - n) ts

-- what is left of a leaf's batch
abbrev pub rest_of : LeafRecords → List Triplet
rest_of x = last_of x.left (column_view x.batch)

-- ---- what was given

-- what is told of the bytes of an opened file, where a link tells these files
abbrev pub IsTold : Option Files → Opened → List Leaf → List ℕ → Type 0
IsTold held o F bytes = IsOpened bytes F o × TellsFile held (path_of o) bytes

-- the stream of a leaf gave these triplets
pub record IsLeafRecords (held : Option Files) (o : Opened) (F : List Leaf) (l : Leaf) (given : List Triplet) (x : LeafRecords) : Type 0 where
  pub file : file_of x.stream ≡ o
  pub well : refused_of x.stream ≡ None
  pub of : (bytes : List ℕ) → IsTold held o F bytes → IsStreamOf bytes l given x.stream
  pub last : (bytes : List ℕ) → IsTold held o F bytes → x.ended ≡ true → IsColumnOf bytes l given

-- what is said of a call, over whatever the stream of a leaf of an opened file gave, where the link holds what it shows
abbrev pub OverLeafRecords : LinkShown → LeafRecords → (Opened → List Leaf → Leaf → List Triplet → Type 0) → Type 0
OverLeafRecords link x says = (o : Opened) (F : List Leaf) (l : Leaf) (given : List Triplet) → IsLeafRecords link.held o F l given x → says o F l given

-- the same over whatever was taken of it, behind which stands what is left of the batch, and of the leaf at an index
abbrev pub OverTaken : LinkShown → LeafRecords → (Opened → List Leaf → Leaf → List Triplet → Type 0) → Type 0
OverTaken link x says = (o : Opened) (F : List Leaf) (l : Leaf) (front : List Triplet) → IsLeafRecords link.held o F l (front ++ rest_of x) x → says o F l front

abbrev pub OverTakenAt : LinkShown → List LeafRecords → ℕ → (Opened → List Leaf → Leaf → LeafRecords → List Triplet → Type 0) → Type 0
OverTakenAt link xs index says = (o : Opened) (F : List Leaf) (l : Leaf) (x : LeafRecords) (front : List Triplet) → slice_get xs index ≡ Some x
    → IsLeafRecords link.held o F l (front ++ rest_of x) x → says o F l x front

-- some triplets of the batch were passed, which joined a column; so many records were wanted, and fewer by those that begin in them. It is told whether
-- the next record begins behind them, or nothing comes behind the batch
pub record IsPassed (x y : LeafRecords) (wanted still : ℕ) (before after : List Triplet) (whole : Bool) : Type 0 where
  pub front : List Triplet
  pub lies : rest_of x ≡ front ++ rest_of y
  pub joined : after ≡ before ++ front
  pub fewer : starts front + still ≡ wanted
  pub cut : begins_record (rest_of y) ≡ true
  pub all : rest_of y ≢ [] → still ≡ 0
  pub ends : whole ≡ true → rest_of y ≡ [] → y.ended ≡ true
  pub goes_on : whole ≢ true → (rest_of y ≡ []) × (y.ended ≢ true)

-- behind what was taken before, the triplets of at most so many records were taken; of exactly so many, where anything comes behind them
pub record IsTaken (held : Option Files) (o : Opened) (F : List Leaf) (l : Leaf) (front : List Triplet) (k : ℕ) (x y : LeafRecords) (ts : List Triplet) : Type 0 where
  pub of : IsLeafRecords held o F l (front ++ (ts ++ rest_of y)) y
  pub few : starts ts ≤ k
  pub all : rest_of y ≢ [] → starts ts ≡ k
  pub cut : begins_record (rest_of y) ≡ true
  pub ends : rest_of y ≡ [] → y.ended ≡ true
  -- where a record began there, they begin with one
  pub begins : begins_record (rest_of x) ≡ true → (rest_of x ≡ [] → x.ended ≡ true) → begins_record ts ≡ true

-- they were taken of the leaf at an index, and the others are as they were
abbrev pub IsTakenAt : Option Files → Opened → List Leaf → Leaf → List Triplet → ℕ → LeafRecords → ℕ → Vec LeafRecords Global → Vec LeafRecords Global → Column → Type 0
IsTakenAt held o F l front k x index xs ys c = (y : LeafRecords) × (ys.items ≡ slice_set xs.items index y) × IsTaken held o F l front k x y (column_view c)

-- ---- what a link is asked for

-- a call that reads the chunks of leaves of an opened file: what it leaves of the link, what its fault says of the file's bytes, and what it asks for
pub record ReadsLeaves {T : Type 0} (o : Opened) (F L : List Leaf) (says : List ℕ → FileFault → Type 0) (r : Result T FileFault) (before now : LinkShown) : Type 0 where
  pub link : LeavesLinkCounted r (ServesOpened before o) before now
  pub cause : (bytes : List ℕ) → IsTold before.held o F bytes → IfErr r (says bytes)
  pub asked : (bytes : List ℕ) (f : Footer) → IsTold before.held o F bytes → footer_of bytes ≡ Some f
      → AsksOnly (is_read_inside (path_of o) (flat_map (leaf_ranges f) (leaves_read f L))) before.asked now.asked
  pub paths : AsksOnly (is_for_path (path_of o)) before.asked now.asked

-- of one leaf
abbrev pub ReadsLeaf : {T : Type 0} → Opened → List Leaf → Leaf → Result T FileFault → LinkShown → LinkShown → Type 0
ReadsLeaf o F l r before now = ReadsLeaves o F (l ∷ []) (λ bytes e. IsColumnFault e (leaf_cause bytes l)) r before now
