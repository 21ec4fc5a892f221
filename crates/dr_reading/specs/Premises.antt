-- What has to hold of a link and of a table, so that what is read of the table is its records.
use Rattle.std.specs.Prelude.{◌≡◌, ℕ, true, List, [], ◌∷◌, map, Option, Some, None, ⊤, ◌⊎◌}
use Rattle.std.specs.List.{slice_get}
use Rattle.dr_meaning.specs.Schema.{Schema}
use Rattle.dr_meaning.specs.Path.{Leaf, paths_of_leaves}
use Rattle.dr_meaning.specs.Record.{Node, project}
use Rattle.dr_formats.specs.File.{IsFileOf}
use Rattle.dr_outside.specs.Link.{Files}
use Rattle.dr_reading.specs.Held.{Held, untold, absent, present, held_file}
use Rattle.dr_reading.specs.Causes.{is_read}
use Rattle.dr_reading.specs.Scan.{Copy, copy_paths, Scan}
use Rattle.dr_reading.specs.Given.{IsFileThere, SomeIsFile}
use Rattle.dr_reading.specs.Left.{Tried, LeftTablet}

-- the link tells what it holds: at each path what these files have
abbrev pub TellsFiles : Files → Option Files → Type 0
TellsFiles files None = ⊥
TellsFiles files (Some told) = (path : List ℕ) → told path ≡ files path

-- what is held is a file of these records for these leaves, or bytes that are no such file of any records, or nothing
abbrev pub HoldsRecords : Schema → List Leaf → List Node → Held → Type 0
HoldsRecords s F R untold = ⊥
HoldsRecords s F R absent = ⊤
HoldsRecords s F R (present bytes) = IsFileOf bytes s F R ⊎ ((S : List Node) → IsFileOf bytes s F S → ⊥)

-- at each of these paths
abbrev pub PathsHold : Schema → List Leaf → List Node → Files → List (List ℕ) → Type 0
PathsHold s F R files [] = ⊤
PathsHold s F R files (path ∷ paths) = HoldsRecords s F R (held_file (files path)) × PathsHold s F R files paths

-- each copy of each tablet holds a file of the tablet's records for these leaves, or none of any records, or nothing
abbrev pub TabletsHold : Schema → List Leaf → Files → List (List Copy) → List (List Node) → Type 0
TabletsHold s F files [] [] = ⊤
TabletsHold s F files (cs ∷ ts) (R ∷ Rs) = PathsHold s F R files (copy_paths cs) × TabletsHold s F files ts Rs
TabletsHold s F files ts Rs = ⊥

-- the link tells what it holds, and that is so of each tablet
abbrev pub HoldsTable : Scan → Option Files → List (List Node) → Type 0
HoldsTable s held Rs = (files : Files) × TellsFiles files held × TabletsHold s.schema s.leaves files s.tablets Rs

-- what is printed depends on the projections to the leaves alone
abbrev pub SeesLeavesAlone : Scan → Type 0
SeesLeavesAlone s = (R S : List Node) → map (project (paths_of_leaves s.leaves)) R ≡ map (project (paths_of_leaves s.leaves)) S → s.text R ≡ s.text S

-- ---- where a file is held of each tablet

-- each tablet has a copy that is a file of some records
abbrev pub EachHasFile : Schema → List Leaf → Files → List (List Copy) → Type 0
EachHasFile s F files [] = ⊤
EachHasFile s F files (cs ∷ ts) = ((R : List Node) × SomeIsFile s F files cs R) × EachHasFile s F files ts

-- one of these copies is a file, and what was told of it is a failed read
abbrev pub SomeFileFailed : Schema → List Leaf → Files → List Copy → List Tried → Type 0
SomeFileFailed s F files [] ts = ⊥
SomeFileFailed s F files (c ∷ cs) [] = ⊥
SomeFileFailed s F files (c ∷ cs) (t ∷ ts) = (((R : List Node) × IsFileThere s F R (files c.path)) × (is_read t.cause ≡ true)) ⊎ SomeFileFailed s F files cs ts

-- that is so of each tablet that is left
abbrev pub EachReadFailed : Schema → List Leaf → Files → List (List Copy) → List LeftTablet → Type 0
EachReadFailed s F files ts [] = ⊤
EachReadFailed s F files ts (l ∷ ls) =
    ((cs : List Copy) × (slice_get ts l.tablet ≡ Some cs) × SomeFileFailed s F files cs l.tried) × EachReadFailed s F files ts ls
