-- The column of a leaf that a file has, a batch at a time: where a stream stands.
use Rattle.std.specs.Prelude.{◌≡◌, ℕ, suc, ◌+◌, ◌≤◌, ◌<◌, ◌⊎◌, List, [], ◌∷◌, ◌++◌, map, drop, length, get_or, Bool, true, if◌then◌else◌, Option, Some, None, string_bytes}
use Rattle.dr_meaning.specs.Path.{Leaf, max_definition}
use Rattle.dr_meaning.specs.Column.{Triplet}
use Rattle.dr_levels.specs.Views.{LeafForm}
use Rattle.dr_outside.specs.Link.{LinkShown}
use Rattle.dr_outside.specs.Telling.{Tells}
use Rattle.dr_chunk.specs.Ranges.{inside}
use Rattle.dr_chunk.specs.Takers.{IsLeafOf, leaf_form}
use Rattle.dr_chunk.specs.Taking as taking
use Rattle.dr_chunk.specs.Taking.{joins, BeginWith, IsTaking}
use Rattle.dr_formats.specs.Opening.{range}
use Rattle.dr_file.specs.declared.opened.Opened.{Opened}
use Rattle.dr_file.specs.declared.opened_field.OpenedField.{OpenedField}
use Rattle.dr_file.specs.declared.opened_leaf.OpenedLeaf.{OpenedLeaf}
use Rattle.dr_file.specs.ChunkPlaces.{all_values}
use Rattle.dr_file.specs.Openings.{ShownChunk, chunk_place_view}
use Rattle.dr_file.specs.Floors.{AreFloorsOf, strip}
use Rattle.dr_file.specs.RowOrders.{IsOrder}
use Rattle.dr_file.specs.LeafColumns.{lies_before, shown_triplets, is_good_chunk}
use Rattle.dr_file.specs.declared.leaf_stream.LeafStream.{LeafStream}

-- ---- a stream by its parts

-- where the file is
abbrev pub path_of : LeafStream → List ℕ
path_of s = s.path.now

-- the place of its footer
abbrev pub footer_of : LeafStream → ℕ
footer_of s = s.footer

-- the leaf that is read
abbrev pub leaf_of : LeafStream → OpenedLeaf
leaf_of s = s.leaf.now

-- its chunks
abbrev pub shown_chunks : LeafStream → List ShownChunk
shown_chunks s = map chunk_place_view (leaf_of s).chunks.items

-- the form of the columns that it fills
abbrev pub stream_form : LeafStream → LeafForm
stream_form s = leaf_form s.shape

-- how many triplets may come at most
abbrev pub left_of : LeafStream → ℕ
left_of s = taking.left_of s.reader + all_values (drop s.next (leaf_of s).chunks.items)

-- how many bytes of the file it holds
abbrev pub held_of : LeafStream → ℕ
held_of s = taking.held_of s.reader

-- ---- what comes

-- the triplets of a chunk that spells a column of its group's rows
abbrev pub good_triplets : List ℕ → ℕ → Leaf → ShownChunk → Option (List Triplet)
good_triplets bytes footer l c = if is_good_chunk bytes footer l c then shown_triplets bytes footer l c else None

-- the triplets of chunks, each of which spells a column of its group's rows
abbrev pub leaf_triplets : List ℕ → ℕ → Leaf → List ShownChunk → Option (List Triplet)
leaf_triplets bytes footer l [] = Some []
leaf_triplets bytes footer l (c ∷ cs) = joins (good_triplets bytes footer l c) (leaf_triplets bytes footer l cs)

-- those of the chunks that come
abbrev pub to_come : List ℕ → Leaf → LeafStream → Option (List Triplet)
to_come bytes l s = leaf_triplets bytes (footer_of s) l (map chunk_place_view (drop s.next (leaf_of s).chunks.items))

-- ---- where a stream stands

-- in a chunk, of which these triplets were given behind those before
pub record InChunk (bytes : List ℕ) (l : Leaf) (given : List Triplet) (s : LeafStream) : Type 0 where
  pub chunk : ShownChunk
  pub lies : lies_before (footer_of s) chunk ≡ true
  pub spans : inside (taking.range_of s.reader) ≡ range chunk.start chunk.size
  pub before : List Triplet
  pub read : List Triplet
  pub parts : given ≡ before ++ read
  pub takes : IsTaking l chunk.values bytes read s.reader
  pub order : IsOrder l.path chunk.rows (map strip read) s.order
  pub all : leaf_triplets bytes (footer_of s) l (shown_chunks s) ≡ joins (Some before) (joins (good_triplets bytes (footer_of s) l chunk) (to_come bytes l s))

-- between chunks
pub record Between (bytes : List ℕ) (l : Leaf) (given : List Triplet) (s : LeafStream) : Type 0 where
  pub over : taking.left_of s.reader ≡ 0
  pub all : leaf_triplets bytes (footer_of s) l (shown_chunks s) ≡ joins (Some given) (to_come bytes l s)

-- in a chunk of which more is to come
pub record Within (bytes : List ℕ) (l : Leaf) (given : List Triplet) (s : LeafStream) : Type 0 where
  pub more : 0 < taking.left_of s.reader
  pub in_chunk : InChunk bytes l given s

-- of the leaf in a file of these bytes a stream gave these triplets
pub record IsAt (bytes : List ℕ) (l : Leaf) (given : List Triplet) (s : LeafStream) : Type 0 where
  pub leaf : IsLeafOf l s.shape
  pub floors : AreFloorsOf l.path s.floors
  pub within : footer_of s ≤ length bytes
  pub place : Between bytes l given s ⊎ Within bytes l given s
  -- the leaf's triplets, if its chunks are good, begin with these
  pub front : (ts : List Triplet) → leaf_triplets bytes (footer_of s) l (shown_chunks s) ≡ Some ts → BeginWith given ts

-- more joined a column
abbrev pub GoesOn : List ℕ → Leaf → List Triplet → List Triplet → List Triplet → LeafStream → Type 0
GoesOn bytes l given before after s = (more : List Triplet) × (after ≡ before ++ more) × IsAt bytes l (given ++ more) s

-- it reads the leaf of a field of an opened file
pub record IsLeafOfFile (file : Opened) (field : OpenedField) (s : LeafStream) : Type 0 where
  pub path : path_of s ≡ string_bytes file.path
  pub footer : footer_of s ≡ file.footer
  pub leaf : leaf_of s ≡ field.read

-- what is said of a call, over whatever triplets the stream gave of a leaf
abbrev pub OverLeafStream : LeafStream → (List ℕ → Leaf → List Triplet → Type 0) → Type 0
OverLeafStream s says = (bytes : List ℕ) (l : Leaf) (given : List Triplet) → IsAt bytes l given s → says bytes l given

-- the same, where the link tells the file
abbrev pub OverToldLeaf : LinkShown → LeafStream → (List ℕ → Leaf → List Triplet → Type 0) → Type 0
OverToldLeaf link s says = OverLeafStream s (λ bytes l given. Tells link (path_of s) bytes → says bytes l given)

-- its chunks don't spell triplets of the leaf
abbrev pub SpellsNone : List ℕ → Leaf → LeafStream → Type 0
SpellsNone bytes l s = leaf_triplets bytes (footer_of s) l (shown_chunks s) ≡ None
