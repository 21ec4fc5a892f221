-- Laws of what a load has put.
use Rattle.std.specs.Prelude.{◌≡◌, ◌<◌, ℕ, List, length, Option, Some, Ok}
use Rattle.dr_meaning.specs.Path.{Leaf, leaves}
use Rattle.dr_meaning.specs.Record.{Node}
use Rattle.dr_meaning.specs.Lines.{records_of}
use Rattle.dr_formats.specs.Loading.{Plan, most_loaded, whole_puts, table_of}
use Rattle.dr_formats.specs.Tablets.{tablets}
use Rattle.dr_formats.specs.WritingLaws.{AreAmong}
use Rattle.dr_outside.specs.Link.{Files}
use Rattle.dr_reading.specs.Scan.{joined, tablets_of}
use Rattle.dr_reading.specs.Premises.{TabletsHold}
use Rattle.dr_load.specs.Loads.{LoadsTable}
use Rattle.dr_input.specs.Taken.{WhereTold}
use Rattle.dr_load.specs.Puts.{HoldsPut}
use Rattle.dr_load.specs.Loaded.{IsPlan, AreLoadable, IsApart, TabletsAreFiles}

-- behind the puts of a table, whatever was held before: each copy of each tablet holds the file that is written for the tablet's records, and it is one
abbrev pub LoadedCopiesAreFiles : Type 0
LoadedCopiesAreFiles = (p : Plan) (R : List Node) (F : List Leaf) (before now : Files)
    → IsPlan p → AreLoadable p R → IsApart p.directories p.table → AreAmong (leaves p.schema.fields) F
    → HoldsPut (whole_puts p (tablets p.rows R)) (Some before) (Some now)
    → TabletsAreFiles p.form p.schema F now (tablets_of (table_of p (length (tablets p.rows R)))) (tablets p.rows R)

-- so the table is held: what is read of it is its records
abbrev pub LoadedTableIsHeld : Type 0
LoadedTableIsHeld = (p : Plan) (R : List Node) (F : List Leaf) (before now : Files)
    → IsPlan p → AreLoadable p R → IsApart p.directories p.table → AreAmong (leaves p.schema.fields) F
    → HoldsPut (whole_puts p (tablets p.rows R)) (Some before) (Some now)
    → TabletsHold p.schema F now (tablets_of (table_of p (length (tablets p.rows R)))) (tablets p.rows R)

-- a table that a load has put, with its file or without: there is a tablet; each copy of each tablet holds the file that is written for the tablet's records; and
-- these are the records of the input, where that is told
abbrev pub LoadedRecordsAreHeld : Type 0
LoadedRecordsAreHeld = (p : Plan) (count : ℕ) (input : Option (List ℕ)) (F : List Leaf) (before now : Files)
    → IsPlan p → IsApart p.directories p.table → AreAmong (leaves p.schema.fields) F
    → (l : LoadsTable p p.table count input (Some before) (Some now))
    → (0 < count) × TabletsAreFiles p.form p.schema F now (tablets_of (table_of p count)) (tablets p.rows l.records)
    × WhereTold input (λ bytes. records_of p.schema.fields (most_loaded p.rows) bytes ≡ Ok l.records)

-- the records of the tablets, joined, are those that were loaded
abbrev pub LoadedRecordsAreJoined : Type 0
LoadedRecordsAreJoined = (rows : ℕ) (R : List Node) → joined (tablets rows R) ≡ R
