-- Shapes of data pages.
use Rattle.std.specs.Prelude.{◌≡◌, ℕ, pos}
use Rattle.dr_meaning.specs.Schema.{Kind}
use Rattle.dr_formats.specs.Metadata.{DataPageHeader, DataPageHeaderV2}
use Rattle.dr_formats.specs.Page.{PageShape, data_page_v1, data_page_v2}
use Rattle.dr_page.specs.declared.shape.Shape.{Shape}
use Rattle.dr_chunk.specs.declared.leaf_shape.LeafShape.{LeafShape}

-- what is known of a V1 page with this header, of a leaf of a kind and greatest levels
abbrev pub shape_with : DataPageHeader → Kind → ℕ → ℕ → PageShape
shape_with h k r d = record {
  form = data_page_v1;
  triplets = h.values;
  encoding = h.encoding;
  definition_encoding = h.definition_encoding;
  repetition_encoding = h.repetition_encoding;
  definition_bytes = 0;
  repetition_bytes = 0;
  kind = k;
  max_repetition = r;
  max_definition = d;
}

-- and of a V2 page
abbrev pub shape_v2_with : DataPageHeaderV2 → Kind → ℕ → ℕ → PageShape
shape_v2_with h k r d = record {
  form = data_page_v2;
  triplets = h.values;
  encoding = h.encoding;
  definition_encoding = pos 3;
  repetition_encoding = pos 3;
  definition_bytes = h.definition_bytes;
  repetition_bytes = h.repetition_bytes;
  kind = k;
  max_repetition = r;
  max_definition = d;
}

-- whether a shape is that of a page of the leaf
abbrev pub IsOfLeaf : LeafShape → Shape → Type 0
IsOfLeaf l s = (s.kind ≡ l.kind) × (s.max_definition ≡ l.max_definition)
