-- Where a chunk begins, and what a page's header and its leaf say of its body, by computation.
use Rattle.std.specs.Prelude.{◌≡◌, [], ◌∷◌, map, true, pos, negsuc, Some, None, codes, refl}
use Rattle.dr_meaning.specs.Schema.{optional, repeated, text_kind}
use Rattle.dr_meaning.specs.Path.{Leaf}
use Rattle.dr_formats.specs.Metadata.{DataPageHeader, DataPageHeaderV2}
use Rattle.dr_formats.specs.Page.{data_page_v1, data_page_v2}
use Rattle.dr_formats.specs.Chunk.{shape_of_page, shape_of_page_v2, start_from}

-- behind a data page at 100: no dictionary page; at -1, 0, 1, 3, 4, 99, 100, 101: it counts above 0 and below the data page, also where that is in the magic
pub starts : map (start_from 100) (None ∷ Some (negsuc 0) ∷ Some (pos 0) ∷ Some (pos 1) ∷ Some (pos 3) ∷ Some (pos 4) ∷ Some (pos 99) ∷ Some (pos 100) ∷ Some (pos 101) ∷ [])
    ≡ 100 ∷ 100 ∷ 100 ∷ 1 ∷ 3 ∷ 4 ∷ 99 ∷ 100 ∷ 100 ∷ []
starts = refl

-- the leaf g.s of an optional group and a repeated text
abbrev text_leaf : Leaf
text_leaf = record { names = codes "g" ∷ codes "s" ∷ []; path = record { place = 0; repetition = optional } ∷ record { place = 0; repetition = repeated } ∷ []; kind = text_kind }

abbrev header : DataPageHeader
header = record { values = 5; encoding = pos 8; definition_encoding = pos 3; repetition_encoding = pos 4 }

-- each number of the header and the leaf in its place
pub shape : shape_of_page text_leaf header ≡ record { form = data_page_v1; triplets = 5; encoding = pos 8; definition_encoding = pos 3; repetition_encoding = pos 4; definition_bytes = 0; repetition_bytes = 0; kind = text_kind; max_repetition = 1; max_definition = 2 }
shape = refl

abbrev header_v2 : DataPageHeaderV2
header_v2 = record { values = 5; nulls = Some (pos 7); rows = Some (pos 8); encoding = pos 8; definition_bytes = 3; repetition_bytes = 2; compressed = Some true }

-- those of a V2 header
pub shape_v2 : shape_of_page_v2 text_leaf header_v2 ≡ record { form = data_page_v2; triplets = 5; encoding = pos 8; definition_encoding = pos 3; repetition_encoding = pos 3; definition_bytes = 3; repetition_bytes = 2; kind = text_kind; max_repetition = 1; max_definition = 2 }
shape_v2 = refl
