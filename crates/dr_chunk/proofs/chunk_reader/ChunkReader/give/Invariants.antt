use Rattle.std.specs.Prelude.{IsTrue, None}
use Rattle.std.proofs.Common.{◌≡◌, ◌∷◌, [], ℕ, List}
use Rattle.dr_meaning.specs.Path.{Leaf}
use Rattle.dr_meaning.specs.Column.{Triplet}
use Rattle.dr_outside.specs.Telling.{Tells, AsksOnly}
use Rattle.dr_chunk.specs.Ranges.{is_read_inside, inside}
use Rattle.dr_chunk.specs.Taking.{range_of, left_of, reader_form, refused_of, IsTaking}
use Rattle.dr_chunk.proofs.chunk_reader.ChunkReader.give.Given as goal

-- the same triplets were given, and as many are left
abbrev pub invariant-pages : goal.invariant-pages
invariant-pages g l = let shows = g.L.Link.shows in record {
  takes : (leaf : Leaf) (wanted : ℕ) (bytes : List ℕ) (given : List Triplet) → IsTaking leaf wanted bytes given l.initial.self → Tells (shows l.initial.link) l.path bytes → IsTaking leaf wanted bytes given l.self;
  left : left_of l.self ≡ left_of l.initial.self;
  form : reader_form l.self ≡ reader_form l.initial.self;
  range : range_of l.self ≡ range_of l.initial.self;
  unrefused : refused_of l.self ≡ None;
  same : (shows l.link).held ≡ (shows l.initial.link).held;
  asked : AsksOnly (is_read_inside l.path (inside (range_of l.initial.self) ∷ [])) (shows l.initial.link).asked (shows l.link).asked;
  calm : (shows l.link).faults ≡ (shows l.initial.link).faults;
  steady : IsTrue (shows l.initial.link).is_steady → IsTrue (shows l.link).is_steady;
}

abbrev pub decreases-pages : goal.decreases-pages
decreases-pages g l = l.self.pages
