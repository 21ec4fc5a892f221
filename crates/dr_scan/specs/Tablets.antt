-- What is scanned of one tablet: a partial from the first of its copies that gives one, or why each gives none.
use Rattle.std.specs.Prelude.{◌≡◌, List, ⊤}
use Rattle.dr_meaning.specs.Schema.{Schema}
use Rattle.dr_meaning.specs.Query.{Query}
use Rattle.dr_meaning.specs.QueryLeaves.{query_leaves}
use Rattle.dr_outside.specs.Link.{LinkShown}
use Rattle.dr_partials.specs.Partials.{Stands}
use Rattle.dr_partials.specs.Rewriting.{leaf_query}
use Rattle.dr_group.specs.Partials.{partial_view}
use Rattle.dr_group.specs.declared.partial.Partial.{Partial}
use Rattle.dr_reading.specs.Causes.{LeadTo}
use Rattle.dr_reading.specs.Scan.{Copy}
use Rattle.dr_reading.specs.InTurn.{TabletRead, read_given, read_left, IsTabletRead, causes_at}
use Rattle.dr_table.specs.LeftViews.{all_tried_view}
use Rattle.dr_scan.specs.declared.tablet.Scanned.{Scanned}

-- a partial stands for the leaf query on the records that were read, or these are the copies that were tried
abbrev pub IsOfScan : Schema → Query → TabletRead → Scanned → Type 0
IsOfScan s q (read_given ts R) (Scanned.Given p) = Stands s.fields (leaf_query q) R (partial_view p)
IsOfScan s q (read_left ts) (Scanned.Left tried) = all_tried_view tried.items ≡ ts
IsOfScan s q r scanned = ⊥

-- what a link reads of these copies, until it shows what it shows now
abbrev pub IsScannedAs : Schema → Query → LinkShown → LinkShown → List Copy → Scanned → Type 0
IsScannedAs s q link now cs scanned = (r : TabletRead) × IsTabletRead s (query_leaves s.fields q) link cs r
    × LeadTo link.faults (causes_at r) now.faults × IsOfScan s q r scanned

-- where a partial is given, this holds of it
abbrev pub WhereScanned : (Partial → Type 0) → Scanned → Type 0
WhereScanned P (Scanned.Given p) = P p
WhereScanned P (Scanned.Left tried) = ⊤
