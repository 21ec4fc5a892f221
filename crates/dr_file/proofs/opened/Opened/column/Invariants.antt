use Rattle.std.specs.Prelude.{IsTrue}
use Rattle.std.proofs.Common.{◌≡◌, ◌+◌, ◌≤◌, ℕ, List, length}
use Rattle.std.specs.Prelude.{Some, None}
use Rattle.std.specs.List.{slice_get}
use Rattle.dr_meaning.specs.Path.{Leaf, max_definition}
use Rattle.dr_formats.specs.File.{most_triplets}
use Rattle.dr_levels.specs.Views.{column_view, column_form, form}
use Rattle.dr_outside.specs.Telling.{Tells, AsksOnly}
use Rattle.dr_file.specs.Asking.{is_for_path}
use Rattle.dr_file.specs.OpenedFiles.{IsOpened, path_of}
use Rattle.dr_file.specs.Streams.{IsOfLeaf, IsStreamOf, file_of, stream_form, left_of, refused_of}
use Rattle.dr_formats.specs.File.{Footer, footer_of, leaves_read}
use Rattle.dr_formats.specs.Opening.{leaf_ranges}
use Rattle.std.specs.List.{flat_map}
use Rattle.std.proofs.Common.{◌∷◌, []}
use Rattle.dr_chunk.specs.Ranges.{is_read_inside}
use Rattle.dr_file.proofs.opened.Opened.column.Given as goal

-- the column has what the stream gave so far
abbrev pub invariant-batches : goal.invariant-batches
invariant-batches g l = let shows = g.L.Link.shows in record {
  given : (bytes : List ℕ) (F : List Leaf) (leaf : Leaf) → IsOpened bytes F l.self → slice_get F l.index ≡ Some leaf → Tells (shows l.initial.link) (path_of l.self) bytes → IsStreamOf bytes leaf (column_view l.column) l.stream;
  of_leaf : (bytes : List ℕ) (F : List Leaf) (leaf : Leaf) → IsOpened bytes F l.self → slice_get F l.index ≡ Some leaf → IsOfLeaf bytes leaf l.stream;
  leaf_form : (bytes : List ℕ) (F : List Leaf) (leaf : Leaf) → IsOpened bytes F l.self → slice_get F l.index ≡ Some leaf → stream_form l.stream ≡ form leaf.kind (max_definition leaf.path);
  column_form : column_form l.column ≡ stream_form l.stream;
  file : file_of l.stream ≡ l.self;
  few : length (column_view l.column) + left_of l.stream ≤ most_triplets;
  goes_on : refused_of l.stream ≡ None;
  same : (shows l.link).held ≡ (shows l.initial.link).held;
  asked : (bytes : List ℕ) (F : List Leaf) (leaf : Leaf) (f : Footer) → IsOpened bytes F l.self → slice_get F l.index ≡ Some leaf → footer_of bytes ≡ Some f
      → AsksOnly (is_read_inside (path_of l.self) (flat_map (leaf_ranges f) (leaves_read f (leaf ∷ [])))) (shows l.initial.link).asked (shows l.link).asked;
  paths : AsksOnly (is_for_path (path_of l.self)) (shows l.initial.link).asked (shows l.link).asked;
  calm : (shows l.link).faults ≡ (shows l.initial.link).faults;
  steady : IsTrue (shows l.initial.link).is_steady → IsTrue (shows l.link).is_steady;
}

abbrev pub decreases-batches : goal.decreases-batches
decreases-batches g l = left_of l.stream
