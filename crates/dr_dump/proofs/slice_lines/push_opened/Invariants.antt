use Rattle.std.proofs.Common.{map, string_bytes}
use Rattle.std.specs.Prelude.{Ok}
use Rattle.dr_nested.specs.SchemaView.{schema_view}
use Rattle.dr_nested.specs.PathView.{path_view}
use Rattle.dr_scan.specs.FileRecords.{IsFaultOf}
use Rattle.dr_dump.specs.Leaves.{ReadsLeaves}
use Rattle.dr_dump.proofs.PrintedLemmas.{IsPrinted}
use Rattle.dr_dump.proofs.slice_lines.push_opened.Given as goal

-- the slices before this one were printed
abbrev pub invariant-slices : goal.invariant-slices
invariant-slices g l = record {
  printed : IsPrinted (schema_view l.schema) (map path_view l.fields) (g.L.Link.shows l.initial.link).held l.opened l.left (string_bytes l.initial.text) (string_bytes l.text) l.leaves.items;
  reads : ReadsLeaves {T = Unit {0}} l.opened (map path_view l.fields) (map path_view l.fields) (λ bytes. IsFaultOf bytes (schema_view l.schema) (map path_view l.fields)) (Ok tt) (g.L.Link.shows l.initial.link) (g.L.Link.shows l.link);
}
