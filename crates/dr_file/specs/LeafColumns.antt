-- The column of a leaf, chunk by chunk.
use Rattle.std.specs.Prelude.{◌≡◌, ℕ, ◌+◌, ◌-◌, ◌<◌, List, [], ◌∷◌, map, take, drop, Bool, true, ◌&&◌, nat_le, if◌then◌else◌, Option, Some, None, option_map}
use Rattle.std.specs.List.{flat_map, slice_get}
use Rattle.dr_meaning.specs.Path.{Leaf}
use Rattle.dr_meaning.specs.Column.{Triplet}
use Rattle.dr_formats.specs.Chunk.{pages_triplets}
use Rattle.dr_formats.specs.Opening.{Range, range, has_column}
use Rattle.dr_chunk.specs.Ranges.{inside}
use Rattle.dr_chunk.specs.declared.byte_range.ByteRange.{ByteRange}
use Rattle.dr_nested.specs.Views.{kind_view}
use Rattle.dr_nested.specs.PathView.{step_view}
use Rattle.dr_file.specs.Openings.{ShownChunk, chunk_place_view}
use Rattle.dr_file.specs.declared.chunk_place.ChunkPlace.{ChunkPlace}
use Rattle.dr_file.specs.declared.opened_leaf.OpenedLeaf.{OpenedLeaf}

-- whether a chunk lies between the magic and the footer
abbrev pub lies_before : ℕ → ShownChunk → Bool
lies_before footer c = nat_le 4 c.start && nat_le (c.start + c.size) footer

-- the triplets that a chunk spells in a file of these bytes, whose footer begins at this place
abbrev pub shown_triplets : List ℕ → ℕ → Leaf → ShownChunk → Option (List Triplet)
shown_triplets bytes footer l c = if lies_before footer c then pages_triplets l c.values (take c.size (drop c.start bytes)) else None

-- whether a chunk spells a column of its group's rows
abbrev pub is_good_chunk : List ℕ → ℕ → Leaf → ShownChunk → Bool
is_good_chunk bytes footer l c = has_column l c.rows (shown_triplets bytes footer l c)

-- the triplets, if there are any
abbrev pub triplets_given : Option (List Triplet) → List Triplet
triplets_given None = []
triplets_given (Some ts) = ts

-- the triplets of chunks, one after another
abbrev pub chunks_triplets : List ℕ → ℕ → Leaf → List ShownChunk → List Triplet
chunks_triplets bytes footer l cs = flat_map (λ c. triplets_given (shown_triplets bytes footer l c)) cs

-- the bytes of a chunk, where it lies before the footer
abbrev pub shown_range : ℕ → ShownChunk → List Range
shown_range footer c = if lies_before footer c then range c.start c.size ∷ [] else []

-- an opened leaf has the path and the kind of this leaf
abbrev pub IsShownLeaf : Leaf → OpenedLeaf → Type 0
IsShownLeaf l o = (l.path ≡ map step_view o.steps.items) × (l.kind ≡ kind_view o.kind)

-- the chunk before this index lies before the footer, and has this range
abbrev pub HasChunk : ℕ → List ChunkPlace → ℕ → ByteRange → Type 0
HasChunk footer cs next r =
    (0 < next) × (option_map (λ (c : ChunkPlace). lies_before footer (chunk_place_view c)) (slice_get cs (next - 1)) ≡ Some true)
    × (option_map (λ (c : ChunkPlace). range c.start c.size) (slice_get cs (next - 1)) ≡ Some (inside r))
