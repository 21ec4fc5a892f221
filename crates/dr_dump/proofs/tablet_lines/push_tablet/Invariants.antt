use Rattle.std.proofs.Common.{◌≡◌, ◌≤◌, map, [], ◌∷◌, string_bytes}
use Rattle.std.specs.Prelude.{IsTrue}
use Rattle.dr_nested.specs.SchemaView.{schema_view}
use Rattle.dr_nested.specs.PathView.{path_view}
use Rattle.dr_table.specs.Views.{table_view}
use Rattle.dr_reading.specs.Causes.{LeadTo}
use Rattle.dr_reading.specs.Scan.{copies_from}
use Rattle.dr_reading.specs.Left.{AreTried, causes_of}
use Rattle.dr_table.specs.LeftViews.{all_tried_view}
use Rattle.dr_scan.specs.Asked.{AsksForTablets}
use Rattle.dr_dump.proofs.tablet_lines.push_tablet.Given as goal

-- the copies before this one were tried, and nothing is printed
abbrev pub invariant-copies : goal.invariant-copies
invariant-copies g l = record {
  tried : AreTried (schema_view l.table.schema) (map path_view l.fields) (g.L.Link.shows l.initial.link) (copies_from (table_view l.table).leaves l.tablet 0 l.copy) (all_tried_view l.tried.items);
  leads : LeadTo (g.L.Link.shows l.initial.link).faults (causes_of (all_tried_view l.tried.items)) (g.L.Link.shows l.link).faults;
  same : (g.L.Link.shows l.link).held ≡ (g.L.Link.shows l.initial.link).held;
  stays_steady : IsTrue (g.L.Link.shows l.initial.link).is_steady → IsTrue (g.L.Link.shows l.link).is_steady;
  never_falls : (g.L.Link.shows l.initial.link).faults ≤ (g.L.Link.shows l.link).faults;
  asks : AsksForTablets (map path_view l.fields) (copies_from (table_view l.table).leaves l.tablet 0 l.table.copies ∷ []) (g.L.Link.shows l.initial.link) (g.L.Link.shows l.link);
  text : string_bytes l.text ≡ string_bytes l.initial.text;
}
