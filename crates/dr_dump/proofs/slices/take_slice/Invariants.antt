use Rattle.std.proofs.Common.{List}
use Rattle.std.specs.Prelude.{Ok}
use Rattle.dr_meaning.specs.Path.{Leaf}
use Rattle.dr_meaning.specs.Record.{Node}
use Rattle.dr_levels.specs.Views.{columns_view}
use Rattle.dr_file.specs.declared.opened.Opened.{Opened}
use Rattle.dr_scan.specs.FileRecords.{IsColumnsFault}
use Rattle.dr_dump.specs.Leaves.{ReadsLeaves}
use Rattle.dr_dump.specs.Slices.{AreBehind, AreTaken}
use Rattle.dr_dump.proofs.slices.take_slice.Given as goal

-- the columns of the leaves before this one were taken
abbrev pub invariant-leaves : goal.invariant-leaves
invariant-leaves g l = record {
  taken : (o : Opened) (F : List Leaf) (R : List Node) → AreBehind (g.L.Link.shows l.initial.link).held o F R l.initial.leaves.items
      → AreTaken (g.L.Link.shows l.initial.link).held o F R l.records l.index l.initial.leaves.items l.leaves.items (columns_view l.columns.items);
  reads : (o : Opened) (F : List Leaf) (R : List Node) → AreBehind (g.L.Link.shows l.initial.link).held o F R l.initial.leaves.items
      → ReadsLeaves {T = Unit {0}} o F F (λ bytes. IsColumnsFault bytes F) (Ok tt) (g.L.Link.shows l.initial.link) (g.L.Link.shows l.link);
}
