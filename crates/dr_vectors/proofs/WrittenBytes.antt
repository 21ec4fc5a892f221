-- The bytes that are written for values, for pages and for structs, by computation.
use Rattle.std.specs.Prelude.{◌≡◌, ℕ, ◌^◌, List, [], ◌∷◌, map, length, true, false, ℤ, pos, neg_ℤ, Option, Some, None, codes, refl}
use Rattle.dr_meaning.specs.Schema.{bool_kind, int32_kind, int64_kind, text_kind}
use Rattle.dr_meaning.specs.Record.{Value, bool_value, int_value, text_value}
use Rattle.dr_meaning.specs.Column.{Triplet, triplet}
use Rattle.dr_formats.specs.Reading.{got}
use Rattle.dr_formats.specs.Compact.{stop, struct_field, truth_item, binary_item, read_struct}
use Rattle.dr_formats.specs.Hybrid.{hybrid_bytes}
use Rattle.dr_formats.specs.Plain.{plain_bytes}
use Rattle.dr_formats.specs.Page.{data_page_v1, body_bytes, column_values}
use Rattle.dr_formats.proofs.Hexadecimal.{hex}

abbrev number : ℤ → Value
number z = int_value z

abbrev minus : ℕ → ℤ
minus n = neg_ℤ (pos n)

-- ---- values

-- truth values of one bit each, nine of them in two bytes, and none
pub truths : (plain_bytes bool_kind [] ≡ []) × (plain_bytes bool_kind (map bool_value (true ∷ false ∷ true ∷ true ∷ false ∷ false ∷ false ∷ false ∷ true ∷ [])) ≡ hex (codes "0D 01"))
truths = (refl, refl)

-- numbers of four bytes and of eight
pub numbers : (plain_bytes int32_kind (map number (pos 7 ∷ minus 1 ∷ [])) ≡ hex (codes "07000000 FFFFFFFF")) × (plain_bytes int64_kind (number (minus (2 ^ 63)) ∷ []) ≡ hex (codes "0000000000000080"))
    × (plain_bytes int64_kind (number (pos 258) ∷ []) ≡ hex (codes "0201000000000000"))
numbers = (refl, refl, refl)

-- texts behind their lengths, an empty one among them, and none
pub texts : (plain_bytes text_kind (text_value (codes "ab") ∷ []) ≡ hex (codes "02000000 6162")) × (plain_bytes text_kind (text_value (codes "bc") ∷ text_value [] ∷ []) ≡ hex (codes "02000000 6263 00000000"))
    × (plain_bytes text_kind [] ≡ [])
texts = (refl, refl, refl)

-- ---- pages

abbrev word : List ℕ → Option Value
word t = Some (text_value t)

-- five places of an optional text below two repeated fields
abbrev five : List Triplet
five = triplet 0 3 (word (codes "us")) ∷ triplet 2 2 None ∷ triplet 1 1 None ∷ triplet 1 3 (word (codes "gb")) ∷ triplet 0 1 None ∷ []

-- both levels, then the texts, which have 12 bytes
pub page_of_texts : (body_bytes data_page_v1 text_kind 2 3 five ≡ hex (codes "03000000 0358 00 03000000 03DB 01 02000000 7573 02000000 6762")) × (length (plain_bytes text_kind (column_values five)) ≡ 12)
unfolding body_bytes hybrid_bytes
page_of_texts = (refl, refl)

abbrev there : Value → Triplet
there v = triplet 0 0 (Some v)

-- of a leaf that is always there the values alone
pub pages_of_required_leaves : (body_bytes data_page_v1 bool_kind 0 0 (map there (bool_value true ∷ bool_value false ∷ bool_value true ∷ [])) ≡ 5 ∷ [])
    × (body_bytes data_page_v1 int32_kind 0 0 (map there (number (pos 1) ∷ number (minus 1) ∷ number (pos 2) ∷ [])) ≡ hex (codes "01000000 FFFFFFFF 02000000"))
    × (body_bytes data_page_v1 int64_kind 0 0 (there (number (minus 2)) ∷ []) ≡ hex (codes "FEFFFFFFFFFFFFFF"))
unfolding body_bytes
pages_of_required_leaves = (refl, refl, refl)

-- ---- structs

-- two fields, one behind the other, as they are read
pub two_fields : read_struct (hex (codes "18 01 61 12 00")) ≡ got (struct_field (pos 1) (binary_item (codes "a")) (struct_field (pos 2) (truth_item false) stop)) []
unfolding read_struct
two_fields = refl
