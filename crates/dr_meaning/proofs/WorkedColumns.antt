-- Columns of the worked records, by computation.
use Rattle.std.specs.Prelude.{◌≡◌, ℕ, List, [], ◌∷◌, map, Bool, true, false, pos, Option, Some, None, codes, refl}
use Rattle.std.specs.Str.{is_utf8, chars}
use Rattle.dr_meaning.specs.Schema.{int64_kind, text_kind}
use Rattle.dr_meaning.specs.Path.{Leaf}
use Rattle.dr_meaning.specs.OneColumn.{starts, begins_record, is_column, level_inside}
use Rattle.dr_meaning.specs.Record.{Value, int_value, text_value}
use Rattle.dr_meaning.specs.Column.{triplet, column, record_column}
use Rattle.dr_meaning.proofs.WorkedRecords.{record_10, record_20, record_30}
use Rattle.dr_meaning.proofs.WorkedPaths.{doc_id, backward, forward, country, url}

abbrev word : List ℕ → Option Value
word t = Some (text_value t)

abbrev number : ℕ → Option Value
number n = Some (int_value (pos n))

pub country_column : column country (record_10 ∷ record_20 ∷ []) ≡
    triplet 0 3 (word (codes "us")) ∷ triplet 2 2 None ∷ triplet 1 1 None ∷ triplet 1 3 (word (codes "gb")) ∷ triplet 0 1 None ∷ []
country_column = refl

-- an empty list in a present group
pub backward_10 : record_column backward record_10 ≡ triplet 0 1 None ∷ []
backward_10 = refl

-- an empty list in an absent group
pub backward_30 : record_column backward record_30 ≡ triplet 0 0 None ∷ []
backward_30 = refl

pub backward_column : column backward (record_10 ∷ record_20 ∷ []) ≡ triplet 0 1 None ∷ triplet 0 2 (number 10) ∷ triplet 1 2 (number 30) ∷ []
backward_column = refl

pub forward_column : column forward (record_10 ∷ record_20 ∷ []) ≡
    triplet 0 2 (number 20) ∷ triplet 1 2 (number 40) ∷ triplet 1 2 (number 60) ∷ triplet 0 2 (number 80) ∷ []
forward_column = refl

pub url_column : column url (record_10 ∷ record_20 ∷ []) ≡
    triplet 0 2 (word (codes "http://A")) ∷ triplet 1 2 (word (codes "http://B")) ∷ triplet 1 1 None ∷ triplet 0 2 (word (codes "http://C")) ∷ []
url_column = refl

pub doc_id_column : column doc_id (record_10 ∷ record_20 ∷ []) ≡ triplet 0 0 (number 10) ∷ triplet 0 0 (number 20) ∷ []
doc_id_column = refl

pub no_records : column country [] ≡ []
no_records = refl

-- ---- which triplets are a column

-- the leaf Name.Language.Country, of greatest levels 2 and 3, and Links.Backward, of 1 and 2
abbrev country_leaf : Leaf
country_leaf = record { names = codes "Name" ∷ codes "Language" ∷ codes "Country" ∷ []; path = country; kind = text_kind }

abbrev backward_leaf : Leaf
backward_leaf = record { names = codes "Links" ∷ codes "Backward" ∷ []; path = backward; kind = int64_kind }

abbrev us : Option Value
us = word (codes "us")

pub worked_columns : (is_column country_leaf 2 (column country (record_10 ∷ record_20 ∷ [])) ≡ true) × (is_column backward_leaf 3 (column backward (record_10 ∷ record_20 ∷ record_30 ∷ [])) ≡ true) × (is_column country_leaf 0 [] ≡ true)
unfolding is_utf8 chars lib.Utf8.encode
worked_columns = (refl, refl, refl)

-- another number of rows; a first triplet that begins no record
pub other_rows : (is_column country_leaf 1 (column country (record_10 ∷ record_20 ∷ [])) ≡ false) × (is_column country_leaf 3 (column country (record_10 ∷ record_20 ∷ [])) ≡ false) × (is_column country_leaf 1 [] ≡ false)
    × (is_column country_leaf 0 (triplet 1 1 None ∷ []) ≡ false) × (is_column country_leaf 1 (triplet 1 1 None ∷ triplet 0 1 None ∷ []) ≡ false)
unfolding is_utf8 chars lib.Utf8.encode
other_rows = (refl, refl, refl, refl, refl)

-- levels above the greatest; a value below the greatest definition level, none at it, one of another kind
pub other_levels : map (λ t. is_column country_leaf 1 (t ∷ [])) (triplet 0 3 us ∷ triplet 0 0 None ∷ triplet 0 4 us ∷ triplet 0 4 None ∷ triplet 0 2 us ∷ triplet 0 3 None ∷ triplet 0 3 (number 1) ∷ []) ≡
    true ∷ true ∷ false ∷ false ∷ false ∷ false ∷ false ∷ []
unfolding is_utf8 chars lib.Utf8.encode
other_levels = refl

-- behind a first triplet of definition level d one of the levels r and e: another name (r = 1) needs both to be in a name, another language (2) both
-- in a language; a third repeated field there isn't
abbrev after : ℕ → ℕ → ℕ → Bool
after d r e = is_column country_leaf 1 (triplet 0 d None ∷ triplet r e None ∷ [])

pub what_follows : (after 0 1 1 ≡ false) × (after 1 1 0 ≡ false) × (after 1 1 1 ≡ true) × (after 1 1 2 ≡ true) × (after 2 1 1 ≡ true)
    × (after 1 2 2 ≡ false) × (after 2 2 1 ≡ false) × (after 2 2 2 ≡ true) × (after 2 3 2 ≡ false)
what_follows = (refl, refl, refl, refl, refl, refl, refl, refl, refl)

-- an empty list, and then one more; a list that goes on behind its last record's end
pub lists : (is_column backward_leaf 1 (triplet 0 1 None ∷ triplet 1 2 (number 5) ∷ []) ≡ false) × (is_column backward_leaf 1 (triplet 0 2 (number 5) ∷ triplet 1 1 None ∷ []) ≡ false)
    × (is_column backward_leaf 2 (triplet 0 2 (number 5) ∷ triplet 0 1 None ∷ []) ≡ true) × (is_column backward_leaf 2 (triplet 0 1 None ∷ triplet 0 2 (number 5) ∷ triplet 1 2 (number 5) ∷ []) ≡ true)
lists = (refl, refl, refl, refl)

-- the definition level in an instance of each repeated field of a path
pub levels_inside : (map (level_inside country) (0 ∷ 1 ∷ []) ≡ 1 ∷ 2 ∷ []) × (level_inside backward 0 ≡ 2)
levels_inside = (refl, refl)

-- how many triplets begin a record, and whether the first does
pub record_starts : (starts (triplet 0 1 None ∷ triplet 1 2 (number 5) ∷ triplet 0 1 None ∷ []) ≡ 2) × (map begins_record ([] ∷ (triplet 0 1 None ∷ []) ∷ (triplet 1 1 None ∷ triplet 0 1 None ∷ []) ∷ []) ≡ true ∷ true ∷ false ∷ [])
record_starts = (refl, refl)
