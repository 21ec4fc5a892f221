use Rattle.std.proofs.Common.{◌≡◌, ℕ, ◌-◌, List, length}
use Rattle.dr_meaning.specs.Path.{Leaf}
use Rattle.dr_meaning.specs.Column.{Triplet}
use Rattle.dr_file.specs.LeafStreams.{path_of, footer_of, leaf_of, left_of, stream_form, IsAt}
use Rattle.dr_file.proofs.leaf_stream.LeafStream.next.Given as goal

-- the same triplets were given, and as many may come
abbrev pub invariant-chunks : goal.invariant-chunks
invariant-chunks g l = record {
  at : (bytes : List ℕ) (leaf : Leaf) (given : List Triplet) → IsAt bytes leaf given l.initial.self → IsAt bytes leaf given l.self;
  left : left_of l.self ≡ left_of l.initial.self;
  form : stream_form l.self ≡ stream_form l.initial.self;
  path : path_of l.self ≡ path_of l.initial.self;
  footer : footer_of l.self ≡ footer_of l.initial.self;
  leaf : leaf_of l.self ≡ leaf_of l.initial.self;
}

abbrev pub decreases-chunks : goal.decreases-chunks
decreases-chunks g l = length (leaf_of l.self).chunks.items - l.self.next
