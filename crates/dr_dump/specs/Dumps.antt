-- What is printed of a table's records, and which of its tablets are left.
use Rattle.std.specs.Prelude.{◌≡◌, ℕ, List}
use Rattle.std.specs.List.{flat_map}
use Rattle.dr_meaning.specs.Schema.{Fields}
use Rattle.dr_meaning.specs.Path.{Leaf, paths_of_leaves}
use Rattle.dr_meaning.specs.Record.{Node, project}
use Rattle.dr_meaning.specs.Print.{record_text}
use Rattle.dr_formats.specs.TableFile.{Table}
pub use Rattle.dr_assemble.specs.Lines.{lines_text}
use Rattle.dr_outside.specs.Link.{LinkShown}
use Rattle.dr_reading.specs.Scan.{joined, tablets_of}
use Rattle.dr_reading.specs.Left.{LeftTablet}
use Rattle.dr_reading.specs.InTurn.{GiveInTurn, LeaveInTurn}

-- the lines of records, projected to leaves
abbrev pub dump_text : Fields → List Leaf → List Node → List ℕ
dump_text fs F R = flat_map (λ n. record_text fs (project (paths_of_leaves F) n)) R

-- a text is the lines of the records of a table, of which a link that reads its tablets in turn gives them
abbrev pub AreLinesOf : Table → List Leaf → LinkShown → LinkShown → List ℕ → Type 0
AreLinesOf t F link now text = (Rs : List (List Node)) × GiveInTurn t.schema F link now (tablets_of t) Rs × (text ≡ dump_text t.schema.fields F (joined Rs))

-- a link that reads the tablets of a table in turn leaves some, just these
abbrev pub LeavesTablets : Table → List Leaf → List LeftTablet → LinkShown → LinkShown → Type 0
LeavesTablets t F ls link now = LeaveInTurn t.schema F link now (tablets_of t) ls
