use Rattle.std.specs.Prelude.{IsTrue}
use Rattle.std.proofs.Common.{◌≡◌, ◌≤◌, ℕ, List}
use Rattle.dr_meaning.specs.Path.{Leaf}
use Rattle.dr_meaning.specs.Column.{Triplet}
use Rattle.dr_levels.specs.Views.{column_view, column_form}
use Rattle.dr_outside.specs.Telling.{Tells, AsksOnly}
use Rattle.dr_chunk.specs.Ranges.{is_read_inside}
use Rattle.dr_file.specs.OpenedFiles.{path_of}
use Rattle.dr_file.specs.Streams.{IsStreamOf, file_of, field_of, ranges_of, stream_form, left_of, refused_of}
use Rattle.dr_file.proofs.stream.Stream.give_outline.Given as goal

-- nothing joined the column so far
abbrev pub invariant-batches : goal.invariant-batches
invariant-batches g l = let shows = g.L.Link.shows in record {
  given : (bytes : List ℕ) (leaf : Leaf) (given : List Triplet) → IsStreamOf bytes leaf given l.initial.self → Tells (shows l.initial.link) (path_of (file_of l.initial.self)) bytes → IsStreamOf bytes leaf given l.self;
  column : column_view l.out ≡ column_view l.initial.out;
  column_form : column_form l.out ≡ column_form l.initial.out;
  left : left_of l.self ≤ left_of l.initial.self;
  form : stream_form l.self ≡ stream_form l.initial.self;
  file : file_of l.self ≡ file_of l.initial.self;
  field : field_of l.self ≡ field_of l.initial.self;
  refused : refused_of l.self ≡ refused_of l.initial.self;
  same : (shows l.link).held ≡ (shows l.initial.link).held;
  asked : AsksOnly (is_read_inside (path_of (file_of l.initial.self)) (ranges_of l.initial.self)) (shows l.initial.link).asked (shows l.link).asked;
  calm : (shows l.link).faults ≡ (shows l.initial.link).faults;
  steady : IsTrue (shows l.initial.link).is_steady → IsTrue (shows l.link).is_steady;
}

abbrev pub decreases-batches : goal.decreases-batches
decreases-batches g l = left_of l.self
