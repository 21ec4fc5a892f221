use Rattle.std.proofs.Common.{◌≡◌, ◌+◌, ◌++◌, List, []}
use Rattle.std.specs.Prelude.{true, Ok}
use Rattle.dr_meaning.specs.Path.{Leaf}
use Rattle.dr_meaning.specs.Column.{Triplet}
use Rattle.dr_meaning.specs.OneColumn.{starts, begins_record}
use Rattle.dr_levels.specs.Views.{column_form, column_view}
use Rattle.dr_file.specs.Streams.{stream_form}
use Rattle.dr_file.specs.declared.opened.Opened.{Opened}
use Rattle.dr_dump.specs.Leaves.{rest_of, IsLeafRecords, ReadsLeaf}
use Rattle.dr_dump.proofs.leaf_records.LeafRecords.take.Given as goal

-- what joined the column, and what is left of the batch, was given behind what was taken before
abbrev pub invariant-batches : goal.invariant-batches
invariant-batches g l = record {
  at : (o : Opened) (F : List Leaf) (leaf : Leaf) (front : List Triplet) → IsLeafRecords (g.L.Link.shows l.initial.link).held o F leaf (front ++ rest_of l.initial.self) l.initial.self
      → IsLeafRecords (g.L.Link.shows l.initial.link).held o F leaf (front ++ (column_view l.column ++ rest_of l.self)) l.self;
  few : starts (column_view l.column) + l.wanted ≡ l.records;
  form : stream_form l.self.stream ≡ column_form l.column;
  begins : begins_record (rest_of l.initial.self) ≡ true → (rest_of l.initial.self ≡ [] → l.initial.self.ended ≡ true)
      → (begins_record (column_view l.column) ≡ true) × (column_view l.column ≡ [] → (begins_record (rest_of l.self) ≡ true) × (rest_of l.self ≡ [] → l.self.ended ≡ true));
  reads : (o : Opened) (F : List Leaf) (leaf : Leaf) (front : List Triplet) → IsLeafRecords (g.L.Link.shows l.initial.link).held o F leaf (front ++ rest_of l.initial.self) l.initial.self
      → ReadsLeaf {T = Unit {0}} o F leaf (Ok tt) (g.L.Link.shows l.initial.link) (g.L.Link.shows l.link);
}
