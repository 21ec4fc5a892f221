-- What is known between the pages of a chunk, and what a page does to it.
use Rattle.std.specs.Prelude.{◌≡◌, ℕ, List, Bool, ⊤}
use Rattle.dr_meaning.specs.Record.{Value}
use Rattle.dr_meaning.specs.Path.{Leaf, max_repetition, max_definition}
use Rattle.dr_formats.specs.Reading.{Reading, got, refused}
use Rattle.dr_formats.specs.Page.{PageFault}
use Rattle.dr_nested.specs.Views.{kind_view}
use Rattle.dr_levels.specs.Views.{LeafForm, form}
use Rattle.dr_page.specs.Views.{dictionary_view}
use Rattle.dr_chunk.specs.Headers.{IsRefused}
use Rattle.dr_chunk.specs.declared.leaf_shape.LeafShape.{LeafShape}
use Rattle.dr_chunk.specs.declared.page_taker.PageTaker.{PageTaker}
use Rattle.dr_chunk.specs.declared.fault.ChunkFault.{ChunkFault}

abbrev pub leaf_of : PageTaker → LeafShape
leaf_of t = t.leaf

-- how many triplets are wanted of the pages that are still to come
abbrev pub wanted_of : PageTaker → ℕ
wanted_of t = t.wanted

-- whether no page came before
abbrev pub is_first_of : PageTaker → Bool
is_first_of t = t.is_first

abbrev pub dictionary_of : PageTaker → List Value
dictionary_of t = dictionary_view t.dictionary

-- how many bytes the body of the dictionary's page has
abbrev pub dictionary_size_of : PageTaker → ℕ
dictionary_size_of t = t.dictionary_size

-- a leaf of this kind and these greatest levels
abbrev pub IsLeafOf : Leaf → LeafShape → Type 0
IsLeafOf l s = (l.kind ≡ kind_view s.kind) × (max_repetition l.path ≡ s.max_repetition) × (max_definition l.path ≡ s.max_definition)

-- the form of the leaf's columns
abbrev pub leaf_form : LeafShape → LeafForm
leaf_form s = form (kind_view s.kind) s.max_definition

-- bad data is told only where nothing is read; the link isn't asked
abbrev pub IsChunkFault : {A : Type 0} → ChunkFault → Reading PageFault A → Type 0
IsChunkFault ChunkFault.NoMemory r = ⊤
IsChunkFault ChunkFault.Failed r = ⊥
IsChunkFault ChunkFault.BadData r = IsRefused r
