-- Page bodies, by computation: the column of Name.Language.Country of the two worked records in a V1 and in a V2 page, and others in V2 pages.
use Rattle.std.specs.Prelude.{◌≡◌, ℕ, List, [], ◌∷◌, map, replicate, pos, ℤ, Some, None, true, false, codes, refl}
use Rattle.std.specs.Str.{is_utf8, chars}
use Rattle.dr_meaning.specs.Schema.{Kind, bool_kind, int32_kind, text_kind}
use Rattle.dr_meaning.specs.Record.{bool_value, int_value, text_value}
use Rattle.dr_meaning.specs.Column.{Triplet, triplet, column}
use Rattle.dr_meaning.proofs.WorkedRecords.{record_10, record_20}
use Rattle.dr_meaning.proofs.WorkedPaths.{country}
use Rattle.dr_formats.specs.Hybrid.{hybrid, hybrid_bytes}
use Rattle.dr_formats.specs.Page.{PageShape, data_page_v1, data_page_v2, page_triplets, body_bytes}
use Rattle.dr_formats.proofs.Hexadecimal.{hex}

abbrev country_column : List Triplet
country_column = column country (record_10 ∷ record_20 ∷ [])

abbrev pub country_body : List ℕ
country_body = 3 ∷ 0 ∷ 0 ∷ 0 ∷ 3 ∷ 88 ∷ 0 ∷ 3 ∷ 0 ∷ 0 ∷ 0 ∷ 3 ∷ 219 ∷ 1 ∷ 2 ∷ 0 ∷ 0 ∷ 0 ∷ 117 ∷ 115 ∷ 2 ∷ 0 ∷ 0 ∷ 0 ∷ 103 ∷ 98 ∷ []

abbrev pub country_shape : PageShape
country_shape = record { form = data_page_v1; triplets = 5; encoding = pos 0; definition_encoding = pos 3; repetition_encoding = pos 3; definition_bytes = 0; repetition_bytes = 0; kind = text_kind; max_repetition = 2; max_definition = 3 }

pub country_is_written : body_bytes data_page_v1 text_kind 2 3 country_column ≡ country_body
unfolding body_bytes hybrid_bytes
country_is_written = refl

pub country_is_read : page_triplets country_shape [] country_body ≡ Some country_column
unfolding page_triplets hybrid is_utf8 chars lib.Utf8.encode
country_is_read = refl

-- ---- V2

-- so many triplets, an encoding of values, lengths of the repetition and the definition levels; a kind, greatest levels
abbrev shape : ℕ → ℤ → ℕ → ℕ → Kind → ℕ → ℕ → PageShape
shape n e r d k max_r max_d = record { form = data_page_v2; triplets = n; encoding = e; definition_encoding = pos 9; repetition_encoding = pos 9; definition_bytes = d; repetition_bytes = r; kind = k; max_repetition = max_r; max_definition = max_d }

abbrev country_body_v2 : List ℕ
country_body_v2 = hex (codes "03 58 00 03 DB 01 02 00 00 00 75 73 02 00 00 00 67 62")

pub country_is_written_v2 : body_bytes data_page_v2 text_kind 2 3 country_column ≡ country_body_v2
unfolding body_bytes hybrid_bytes
country_is_written_v2 = refl

-- read by the lengths of its level parts; bytes of a part behind its levels, and behind the values, aren't looked at
pub country_is_read_v2 : (page_triplets (shape 5 (pos 0) 3 3 text_kind 2 3) [] country_body_v2 ≡ Some country_column)
    × (page_triplets (shape 5 (pos 0) 5 4 text_kind 2 3) [] (hex (codes "03 58 00 FF 07 03 DB 01 FF 02 00 00 00 75 73 02 00 00 00 67 62 FF")) ≡ Some country_column)
unfolding page_triplets hybrid is_utf8 chars lib.Utf8.encode
country_is_read_v2 = (refl, refl)

-- a part that is too short for its levels, the first, the second; lengths past the body: the first, the second, both together; the first a byte short, so that
-- the second begins before its place
pub country_is_refused_v2 : map (λ (s : PageShape). page_triplets s [] country_body_v2) (shape 5 (pos 0) 2 4 text_kind 2 3 ∷ shape 5 (pos 0) 3 2 text_kind 2 3 ∷ shape 5 (pos 0) 19 0 text_kind 2 3 ∷ shape 5 (pos 0) 3 16 text_kind 2 3 ∷ shape 5 (pos 0) 9 10 text_kind 2 3 ∷ shape 5 (pos 0) 2 3 text_kind 2 3 ∷ [])
    ≡ None ∷ None ∷ None ∷ None ∷ None ∷ None ∷ []
unfolding page_triplets hybrid is_utf8 chars lib.Utf8.encode
country_is_refused_v2 = refl

-- in a V1 body taken for a V2 one the lengths would be levels, in a V2 body taken for a V1 one levels would be a length
pub country_is_no_other_form : (page_triplets (shape 5 (pos 0) 7 7 text_kind 2 3) [] country_body ≡ Some (replicate 5 (triplet 0 0 None))) × (page_triplets country_shape [] country_body_v2 ≡ None)
unfolding page_triplets hybrid is_utf8 chars lib.Utf8.encode
country_is_no_other_form = (refl, refl)

-- levels that aren't there have a part all the same, whose bytes are passed over; it may take all of the body, but not more
abbrev fives : List Triplet
fives = triplet 0 0 (Some (int_value (pos 5))) ∷ []

pub absent_levels : map (λ (s : PageShape). page_triplets s [] (hex (codes "FF FF FF 05 00 00 00"))) (shape 1 (pos 0) 3 0 int32_kind 0 0 ∷ shape 1 (pos 0) 0 3 int32_kind 0 0 ∷ shape 1 (pos 0) 2 1 int32_kind 0 0 ∷ shape 1 (pos 0) 1 3 int32_kind 0 0 ∷ shape 0 (pos 0) 3 4 int32_kind 0 0 ∷ shape 0 (pos 0) 4 4 int32_kind 0 0 ∷ shape 0 (pos 0) 8 0 int32_kind 0 0 ∷ [])
    ≡ Some fives ∷ Some fives ∷ Some fives ∷ None ∷ Some [] ∷ None ∷ None ∷ []
unfolding page_triplets hybrid
absent_levels = refl

-- an optional leaf: a part for the repetition levels that aren't there, then definition levels; NULLs are counted by these; a level above the greatest
pub optional_leaf : (page_triplets (shape 3 (pos 0) 1 2 int32_kind 0 1) [] (hex (codes "FF 03 05 05 00 00 00 06 00 00 00")) ≡ Some (triplet 0 1 (Some (int_value (pos 5))) ∷ triplet 0 0 None ∷ triplet 0 1 (Some (int_value (pos 6))) ∷ []))
    × (page_triplets (shape 2 (pos 0) 0 2 int32_kind 0 1) [] (hex (codes "04 00")) ≡ Some (triplet 0 0 None ∷ triplet 0 0 None ∷ [])) × (page_triplets (shape 2 (pos 0) 0 2 int32_kind 0 1) [] (hex (codes "04 02")) ≡ None)
    × (page_triplets (shape 3 (pos 0) 0 2 int32_kind 0 1) [] (hex (codes "03 05 05 00 00 00 06 00 00")) ≡ None)
unfolding page_triplets hybrid
optional_leaf = (refl, refl, refl, refl)

-- a repeated leaf: the repetition levels come first
abbrev three : ℕ → ℕ → ℕ → List Triplet
three a b c = triplet 0 1 (Some (int_value (pos a))) ∷ triplet 1 1 (Some (int_value (pos b))) ∷ triplet 0 1 (Some (int_value (pos c))) ∷ []

pub repeated_leaf : (page_triplets (shape 3 (pos 0) 3 2 int32_kind 1 1) [] (hex (codes "03 02 FF 06 01 05 00 00 00 06 00 00 00 07 00 00 00")) ≡ Some (three 5 6 7))
    × (page_triplets (shape 3 (pos 0) 2 2 int32_kind 1 1) [] (hex (codes "06 01 03 02 05 00 00 00 06 00 00 00 07 00 00 00")) ≡ Some (triplet 1 0 None ∷ triplet 1 1 (Some (int_value (pos 5))) ∷ triplet 1 0 None ∷ []))
unfolding page_triplets hybrid
repeated_leaf = (refl, refl)

-- values of a dictionary, and truth values in RLE, as in a V1 page
pub other_encodings : (page_triplets (shape 2 (pos 8) 0 2 text_kind 0 1) (text_value (codes "a") ∷ text_value (codes "b") ∷ []) (hex (codes "03 03 01 03 01")) ≡ Some (triplet 0 1 (Some (text_value (codes "b"))) ∷ triplet 0 1 (Some (text_value (codes "a"))) ∷ []))
    × (page_triplets (shape 2 (pos 3) 0 2 bool_kind 0 1) [] (hex (codes "03 01 02000000 02 01")) ≡ Some (triplet 0 1 (Some (bool_value true)) ∷ triplet 0 0 None ∷ []))
    × (page_triplets (record (shape 2 (pos 3) 0 2 bool_kind 0 1) { form = data_page_v1; definition_encoding = pos 3 }) [] (hex (codes "02000000 03 01 02000000 02 00")) ≡ Some (triplet 0 1 (Some (bool_value false)) ∷ triplet 0 0 None ∷ []))
    × (page_triplets (shape 2 (pos 3) 0 2 bool_kind 0 1) [] (hex (codes "03 00")) ≡ Some (triplet 0 0 None ∷ triplet 0 0 None ∷ [])) × (page_triplets (shape 2 (pos 3) 0 2 bool_kind 0 1) [] (hex (codes "03 01 02000000 02 02")) ≡ None)
    × (page_triplets (shape 2 (pos 3) 0 2 int32_kind 0 1) [] (hex (codes "03 00")) ≡ None)
unfolding page_triplets hybrid
other_encodings = (refl, refl, refl, refl, refl, refl)
