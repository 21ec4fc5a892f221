-- Laws of reading.
use Rattle.std.specs.Prelude.{◌≡◌, ℕ, true, false, IsTrue, List, [], map, Option, Some}
use Rattle.std.specs.List.{list_all}
use Rattle.dr_meaning.specs.Schema.{Schema}
use Rattle.dr_meaning.specs.Path.{Leaf, is_leaf_path, paths_of_leaves}
use Rattle.dr_meaning.specs.Record.{Node, project}
use Rattle.dr_formats.specs.File.{IsFileOf}
use Rattle.dr_outside.specs.Link.{Files, LinkShown}
use Rattle.dr_outside.specs.declared.cause.Cause.{Cause}
use Rattle.dr_reading.specs.Premises.{TellsFiles, TabletsHold, HoldsTable, SeesLeavesAlone, EachHasFile, EachReadFailed}
use Rattle.dr_reading.specs.Scan.{Copy, Scan, joined}
use Rattle.dr_reading.specs.Given.{AreGiven}
use Rattle.dr_reading.specs.Held.{present}
use Rattle.dr_reading.specs.Causes.{is_read, IsJustified, RisesApart}
use Rattle.dr_reading.specs.Left.{LeftTablet, IsCauseAt, AreLeft, LeavesJust, causes_met}
use Rattle.dr_reading.specs.InTurn.{TabletRead, AreRead, ReadsInTurn, left_from, records_in}

-- the records that are given have the projections of the tablets' records
abbrev pub GivenAreProjected : Type 0
GivenAreProjected = (s : Schema) (F : List Leaf) (files : Files) (held : Option Files) (ts : List (List Copy)) (Rs Ss : List (List Node))
    → list_all (λ (l : Leaf). is_leaf_path s.fields l.path) F ≡ true → TellsFiles files held → TabletsHold s F files ts Rs → AreGiven s F held ts Ss
    → map (project (paths_of_leaves F)) (joined Ss) ≡ map (project (paths_of_leaves F)) (joined Rs)

-- what is printed of records that are given is what is to be printed of the tablets' records
abbrev pub ReadTextIsMeant : Type 0
ReadTextIsMeant = (s : Scan) (held : Option Files) (Rs Ss : List (List Node)) → list_all (λ (l : Leaf). is_leaf_path s.schema.fields l.path) s.leaves ≡ true
    → SeesLeavesAlone s → HoldsTable s held Rs → AreGiven s.schema s.leaves held s.tablets Ss → s.text (joined Ss) ≡ s.text (joined Rs)

-- bytes whose cause isn't a failed read are no file of any records
abbrev pub OtherCausesHoldNoFile : Type 0
OtherCausesHoldNoFile = (s : Schema) (F : List Leaf) (bytes : List ℕ) (c : Cause) (R : List Node) → is_read c ≡ false
    → IsJustified s F (present bytes) c → IsFileOf bytes s F R → ⊥

-- a copy whose cause isn't a failed read holds no file of any records
abbrev pub LeftHoldsNoFile : Type 0
LeftHoldsNoFile = (s : Schema) (F : List Leaf) (link : LinkShown) (files : Files) (path bytes : List ℕ) (c : Cause) (R : List Node) → link.held ≡ Some files
    → files path ≡ Some bytes → IsCauseAt s F link path c → is_read c ≡ false → IsFileOf bytes s F R → ⊥

-- where each tablet has a copy that is a file of some records, each that is left has such a copy, and what is told of it is a failed read; whatever
-- answers the other tablets have, by this link or by another
abbrev pub LeftFailedToRead : Type 0
LeftFailedToRead = (s : Schema) (F : List Leaf) (link : LinkShown) (files : Files) (ts : List (List Copy)) (left : List LeftTablet) → link.held ≡ Some files
    → EachHasFile s F files ts → AreLeft s F link 0 ts left → EachReadFailed s F files ts left

-- and none is left where the link is steady
abbrev pub SteadyLeavesNone : Type 0
SteadyLeavesNone = (s : Schema) (F : List Leaf) (link : LinkShown) (files : Files) (ts : List (List Copy)) (left : List LeftTablet) → link.held ≡ Some files
    → IsTrue link.is_steady → EachHasFile s F files ts → AreLeft s F link 0 ts left → left ≡ []

-- ---- what one link reads in turn

-- where none of the tablets is left, each gives its records
abbrev pub ReadInTurnIsGiven : Type 0
ReadInTurnIsGiven = (s : Schema) (F : List Leaf) (link : LinkShown) (ts : List (List Copy)) (rs : List TabletRead) → AreRead s F link ts rs
    → left_from 0 rs ≡ [] → AreGiven s F link.held ts (records_in rs)

-- just those that are left are left, and each other one gives some records
abbrev pub ReadInTurnLeavesJust : Type 0
ReadInTurnLeavesJust = (s : Schema) (F : List Leaf) (link : LinkShown) (ts : List (List Copy)) (rs : List TabletRead) → AreRead s F link ts rs
    → LeavesJust s F link 0 ts (left_from 0 rs)

-- each failed read among the causes of the tablets that are left has a rise of its own
abbrev pub LeftRiseApart : Type 0
LeftRiseApart = (s : Schema) (F : List Leaf) (link now : LinkShown) (ts : List (List Copy)) (rs : List TabletRead) → ReadsInTurn s F link now ts rs
    → RisesApart link.faults (causes_met (left_from 0 rs)) now.faults
