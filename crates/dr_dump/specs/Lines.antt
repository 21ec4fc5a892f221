-- What is printed of a file's records, slice after slice.
use Rattle.std.specs.Prelude.{◌≡◌, ◌==◌, ℕ, List, ◌++◌, length, Bool, Option}
use Rattle.dr_meaning.specs.Schema.{Schema, Fields}
use Rattle.dr_meaning.specs.Path.{Leaf}
use Rattle.dr_meaning.specs.Record.{Node}
use Rattle.dr_outside.specs.Link.{Files}
use Rattle.dr_outside.specs.Telling.{TellsFile}
use Rattle.dr_file.specs.declared.opened.Opened.{Opened}
use Rattle.dr_scan.specs.FileRecords.{AreOfFile, AreProjected}
use Rattle.dr_dump.specs.Dumps.{lines_text}
use Rattle.dr_dump.specs.Leaves.{rest_of, IsTold}
use Rattle.dr_dump.specs.declared.leaf_records.LeafRecords.{LeafRecords}

-- whether nothing is left of a leaf's batch
abbrev pub is_passed : LeafRecords → Bool
is_passed x = length (rest_of x) == 0

-- the lines of some records joined a text
abbrev pub PrintsSome : Fields → List ℕ → List ℕ → Type 0
PrintsSome fs before after = (P : List Node) × (after ≡ before ++ lines_text fs P)

-- those of records of the schema, projected to the leaves, which are the records of an opened file where a link tells it
pub record PrintsOpened (s : Schema) (F : List Leaf) (held : Option Files) (o : Opened) (before after : List ℕ) : Type 0 where
  pub records : List Node
  pub projected : AreProjected s F records
  pub lines : after ≡ before ++ lines_text s.fields records
  pub file : (bytes : List ℕ) → IsTold held o F bytes → AreOfFile bytes s F records

-- which are those of the file at a path, where a link tells it
pub record PrintsFile (s : Schema) (F : List Leaf) (held : Option Files) (path : List ℕ) (before after : List ℕ) : Type 0 where
  pub records : List Node
  pub projected : AreProjected s F records
  pub lines : after ≡ before ++ lines_text s.fields records
  pub file : (bytes : List ℕ) → TellsFile held path bytes → AreOfFile bytes s F records
