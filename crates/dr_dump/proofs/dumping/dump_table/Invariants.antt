use Rattle.std.proofs.Common.{◌≡◌, ◌≤◌, map, string_bytes}
use Rattle.std.specs.Prelude.{IsTrue}
use Rattle.dr_nested.specs.SchemaView.{schema_view}
use Rattle.dr_nested.specs.PathView.{path_view}
use Rattle.dr_table.specs.Views.{table_view}
use Rattle.dr_reading.specs.Scan.{tablets_from, tablets_of}
use Rattle.dr_table.specs.LeftViews.{all_left_view}
use Rattle.dr_scan.specs.Asked.{AsksForTablets}
use Rattle.dr_dump.proofs.LineLemmas.{HasPrinted}
use Rattle.dr_dump.proofs.dumping.dump_table.Given as goal

-- the tablets before this one were read
abbrev pub invariant-tablets : goal.invariant-tablets
invariant-tablets g l = record {
  read : HasPrinted (schema_view l.table.schema) (map path_view l.fields) (g.L.Link.shows l.initial.link) (g.L.Link.shows l.link) (tablets_from (table_view l.table).leaves l.table.copies 0 l.tablet) (all_left_view l.left.items) (string_bytes l.text);
  same : (g.L.Link.shows l.link).held ≡ (g.L.Link.shows l.initial.link).held;
  never_falls : (g.L.Link.shows l.initial.link).faults ≤ (g.L.Link.shows l.link).faults;
  stays_steady : IsTrue (g.L.Link.shows l.initial.link).is_steady → IsTrue (g.L.Link.shows l.link).is_steady;
  asks : AsksForTablets (map path_view l.fields) (tablets_of (table_view l.table)) (g.L.Link.shows l.initial.link) (g.L.Link.shows l.link);
}
