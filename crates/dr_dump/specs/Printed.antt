-- What is printed of one tablet, and what is left with it.
use Rattle.std.specs.Prelude.{◌≡◌, ℕ, List, [], ◌∷◌, ◌++◌}
use Rattle.dr_meaning.specs.Schema.{Schema, Fields}
use Rattle.dr_meaning.specs.Path.{Leaf}
use Rattle.dr_outside.specs.Link.{LinkShown}
use Rattle.dr_reading.specs.Causes.{LeadTo}
use Rattle.dr_reading.specs.Scan.{Copy, copies_from}
use Rattle.dr_table.specs.Views.{table_view}
use Rattle.dr_table.specs.declared.table.Table.{Table}
use Rattle.dr_reading.specs.Left as left
use Rattle.dr_reading.specs.InTurn.{TabletRead, read_given, read_left, IsTabletRead, causes_at}
use Rattle.dr_table.specs.LeftViews.{all_tried_view}
use Rattle.dr_dump.specs.Dumps.{dump_text}
use Rattle.dr_dump.specs.declared.tablet_lines.TabletLines.{TabletLines}

-- the lines of the records that were read joined a text, projected to the leaves, or these are the copies that were tried
abbrev pub IsOfRead : Fields → List Leaf → TabletRead → List ℕ → List ℕ → TabletLines → Type 0
IsOfRead fs F (read_given ts R) before after TabletLines.Printed = after ≡ before ++ dump_text fs F R
IsOfRead fs F (read_left ts) before after (TabletLines.Left tried) = all_tried_view tried.items ≡ ts
IsOfRead fs F r before after lines = ⊥

-- what a link reads of these copies, until it shows what it shows now
abbrev pub IsPrintedAs : Schema → List Leaf → LinkShown → LinkShown → List Copy → List ℕ → List ℕ → TabletLines → Type 0
IsPrintedAs s F link now cs before after lines =
    (r : TabletRead) × IsTabletRead s F link cs r × LeadTo link.faults (causes_at r) now.faults × IsOfRead s.fields F r before after lines

-- what is left with what became of one tablet more
abbrev pub with_lines : ℕ → TabletLines → List left.LeftTablet → List left.LeftTablet
with_lines t TabletLines.Printed ls = ls
with_lines t (TabletLines.Left tried) ls = ls ++ record { tablet = t; tried = all_tried_view tried.items } ∷ []

-- the copies of a tablet of a table
abbrev pub copies_in : Table → ℕ → List Copy
copies_in table tablet = copies_from (table_view table).leaves tablet 0 table.copies
