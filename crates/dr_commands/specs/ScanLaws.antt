-- Laws of what is printed of a table.
use Rattle.std.specs.Prelude.{◌≡◌, ℕ, List, Option, Ok}
use Rattle.dr_meaning.specs.Path.{Leaf}
use Rattle.dr_meaning.specs.Record.{Node}
use Rattle.dr_sub_meaning.specs.Nested.{NestedQuery}
use Rattle.dr_sub_meaning.specs.NestedAsk.{read_nested, nested_answer_text}
use Rattle.dr_formats.specs.TableFile.{Table}
use Rattle.dr_outside.specs.Link.{Files}
use Rattle.dr_reading.specs.Scan.{joined, tablets_of}
use Rattle.dr_reading.specs.Given.{AreGiven}
use Rattle.dr_reading.specs.Premises.{HoldsTable, SeesLeavesAlone}
use Rattle.dr_commands.specs.Dump.{dump_scan}
use Rattle.dr_commands.specs.Query.{query_scan}

-- what `dump` prints depends on the projections to its leaves alone
abbrev pub DumpSeesLeavesAlone : Type 0
DumpSeesLeavesAlone = (t : Table) (F : List Leaf) → SeesLeavesAlone (dump_scan t F)

-- and so does what a query prints
abbrev pub QuerySeesLeavesAlone : Type 0
QuerySeesLeavesAlone = (t : Table) (text : List ℕ) (n : NestedQuery) → read_nested t.schema text ≡ Ok n → SeesLeavesAlone (query_scan t n)

-- the link tells what it holds, and each copy of each tablet holds a file of the tablet's records, or none of any records, or nothing: of the
-- records that copies gave a query prints what it means on the tablets' records, whichever copies gave them
abbrev pub QueryPrintsMeaning : Type 0
QueryPrintsMeaning = (t : Table) (text : List ℕ) (n : NestedQuery) (held : Option Files) (Rs Ss : List (List Node)) → read_nested t.schema text ≡ Ok n
    → HoldsTable (query_scan t n) held Rs → AreGiven t.schema (query_scan t n).leaves held (tablets_of t) Ss
    → (query_scan t n).text (joined Ss) ≡ nested_answer_text t.schema n (joined Rs)
