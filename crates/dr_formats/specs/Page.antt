-- Bodies of data pages, V1 and V2: repetition levels, definition levels, values (Apache Parquet, "Data Pages"; Dremel 2010, section 4.1).
use Rattle.std.specs.Prelude.{ℕ, zero, suc, ◌/◌, List, [], ◌∷◌, ◌++◌, map, length, replicate, Bool, true, false, ◌&&◌, ◌||◌, ◌==◌, nat_le}
use Rattle.std.specs.Prelude.{if◌then◌else◌, ℤ, pos, negsuc, Option, Some, None, option_map, option_and_then}
use Rattle.std.specs.List.{list_all}
use Rattle.dr_meaning.specs.Schema.{Kind, bool_kind}
use Rattle.dr_meaning.specs.Record.{Value}
use Rattle.dr_meaning.specs.Column.{Triplet, triplet}
use Rattle.dr_formats.specs.Reading.{Reading, got, refused, Reader, give, ◌>>=◌, bytes_of}
use Rattle.dr_formats.specs.LittleEndian.{little_endian, little_endian_bytes}
use Rattle.dr_formats.specs.Hybrid.{hybrid, hybrid_bytes}
use Rattle.dr_formats.specs.Plain.{plain_values, dictionary_values, truth_of_bit, plain_bytes, is_writable}

-- the forms of a data page: V1, in whose body each level part has its length before it, and V2, whose header tells the lengths
pub data PageForm : Type 0 where
  data_page_v1 : PageForm
  data_page_v2 : PageForm

-- what is known of a page before its body: its form, its number of triplets, the encodings of its values and levels, the lengths of its level parts, and
-- the leaf's kind and greatest levels. The encodings of levels are looked at in V1 pages alone, the lengths in V2 pages alone
pub record PageShape : Type 0 where
  pub form : PageForm
  pub triplets : ℕ
  pub encoding : ℤ
  pub definition_encoding : ℤ
  pub repetition_encoding : ℤ
  pub definition_bytes : ℕ
  pub repetition_bytes : ℕ
  pub kind : Kind
  pub max_repetition : ℕ
  pub max_definition : ℕ

-- the body spells no triplets
pub data PageFault : Type 0 where
  bad_page : PageFault

-- a value, if there is one
abbrev pub found : {A : Type 0} → Option A → Reader PageFault A
found None = refused bad_page
found (Some a) = give a

-- ---- numbers of the format (parquet.thrift, Encoding)

-- whether a field has this number
abbrev pub is_number : ℕ → ℤ → Bool
is_number n (pos m) = m == n
is_number n (negsuc m) = false

-- the encoding PLAIN
abbrev pub plain_encoding : ℕ
plain_encoding = 0

-- the encoding PLAIN_DICTIONARY
abbrev pub plain_dictionary_encoding : ℕ
plain_dictionary_encoding = 2

-- the encoding RLE, that of the hybrid
abbrev pub rle_encoding : ℕ
rle_encoding = 3

-- the encoding RLE_DICTIONARY
abbrev pub rle_dictionary_encoding : ℕ
rle_dictionary_encoding = 8

-- ---- where the parts of a body lie, by its form

-- the level parts of a body, without the lengths before them; the rest has the values
pub record LevelParts : Type 0 where
  pub repetitions : List ℕ
  pub definitions : List ℕ

-- these parts
abbrev pub level_parts_of : List ℕ → List ℕ → LevelParts
level_parts_of rs ds = record { repetitions = rs; definitions = ds }

-- a length of four bytes, and so many bytes
abbrev pub sized_part : Reader PageFault (List ℕ)
sized_part = do
  b ← bytes_of bad_page 4
  bytes_of bad_page (little_endian b)

-- a level part of a V1 page: where the greatest level is 0 there is none, and any encoding, else it is in RLE, with its length before it
abbrev pub level_part : ℕ → ℤ → Reader PageFault (List ℕ)
level_part zero encoding = give []
level_part (suc g) encoding = if is_number rle_encoding encoding then sized_part else refused bad_page

-- the level parts at the front of a V1 page's body
abbrev pub level_parts_v1 : PageShape → Reader PageFault LevelParts
level_parts_v1 s = do
  rs ← level_part s.max_repetition s.repetition_encoding
  ds ← level_part s.max_definition s.definition_encoding
  give (level_parts_of rs ds)

-- those of a V2 page, of the lengths that its header tells, also where a greatest level is 0
abbrev pub level_parts_v2 : PageShape → Reader PageFault LevelParts
level_parts_v2 s = do
  rs ← bytes_of bad_page s.repetition_bytes
  ds ← bytes_of bad_page s.definition_bytes
  give (level_parts_of rs ds)

-- those of a page of this form
abbrev pub level_parts_by : PageForm → PageShape → Reader PageFault LevelParts
level_parts_by data_page_v1 s = level_parts_v1 s
level_parts_by data_page_v2 s = level_parts_v2 s

-- ---- levels

-- the number of binary digits of a number, at most k of them
abbrev pub digits_within : ℕ → ℕ → ℕ
digits_within zero n = 0
digits_within (suc k) n = if n == 0 then 0 else suc (digits_within k (n / 2))

-- the width of levels: the number of binary digits of the greatest
abbrev pub level_width : ℕ → ℕ
level_width greatest = digits_within greatest greatest

-- the levels, if none is above the greatest
abbrev pub none_above : ℕ → List ℕ → Option (List ℕ)
none_above greatest ls = if list_all (λ l. nat_le l greatest) ls then Some ls else None

-- the n levels of a part: zeros where the greatest is 0, whatever the bytes, else those that the hybrid data begins with; none of them is above the greatest
abbrev pub levels : ℕ → ℕ → List ℕ → Option (List ℕ)
levels zero n part = Some (replicate n 0)
levels (suc g) n part = option_and_then (none_above (suc g)) (hybrid (level_width (suc g)) n part)

-- ---- values

-- the bytes of a part that was read
abbrev pub part_read : Reading PageFault (List ℕ) → Option (List ℕ)
part_read (got part rest) = Some part
part_read (refused e rest) = None

-- BOOLEAN in RLE: a length of four bytes, and so many bytes of hybrid data, as levels of which 1 is the greatest; with no value wanted nothing is needed
abbrev pub rle_truths : ℕ → List ℕ → Option (List Value)
rle_truths zero bytes = Some []
rle_truths (suc n) bytes = option_map (map truth_of_bit) (option_and_then (levels 1 (suc n)) (part_read (sized_part bytes)))

-- n values in RLE: truth values alone have it
abbrev pub rle_values : Kind → ℕ → List ℕ → Option (List Value)
rle_values bool_kind n bytes = rle_truths n bytes
rle_values k n bytes = None

-- n values of this encoding at the front of bytes; any other encoding has none
abbrev pub encoded_values : ℤ → Kind → List Value → ℕ → List ℕ → Option (List Value)
encoded_values encoding k dictionary n bytes =
    if is_number plain_encoding encoding then plain_values k n bytes
    else (if is_number plain_dictionary_encoding encoding || is_number rle_dictionary_encoding encoding then dictionary_values dictionary n bytes
    else (if is_number rle_encoding encoding then rle_values k n bytes
    else None))

-- the values that the rest of the body begins with; bytes after them are ignored
abbrev pub values : ℤ → Kind → List Value → ℕ → Reader PageFault (List Value)
values encoding k dictionary n bytes = found (encoded_values encoding k dictionary n bytes) []

-- how many levels are this one
abbrev pub count_equal : ℕ → List ℕ → ℕ
count_equal g [] = 0
count_equal g (l ∷ ls) = if l == g then suc (count_equal g ls) else count_equal g ls

-- the first value, if one is taken
abbrev pub first_if : Bool → List Value → Option Value
first_if false vs = None
first_if true [] = None
first_if true (v ∷ vs) = Some v

-- the values behind it
abbrev pub behind_if : Bool → List Value → List Value
behind_if false vs = vs
behind_if true [] = []
behind_if true (v ∷ vs) = vs

-- levels with the values: one at each greatest definition level
abbrev pub join_triplets : ℕ → List ℕ → List ℕ → List Value → List Triplet
join_triplets g [] ds vs = []
join_triplets g (r ∷ rs) [] vs = []
join_triplets g (r ∷ rs) (d ∷ ds) vs = triplet r d (first_if (d == g) vs) ∷ join_triplets g rs ds (behind_if (d == g) vs)

-- ---- bodies

-- repetition levels, definition levels, and a value for each greatest definition level
abbrev pub page_body : PageShape → List Value → Reader PageFault (List Triplet)
page_body s dictionary = do
  p ← level_parts_by s.form s
  rs ← found (levels s.max_repetition s.triplets p.repetitions)
  ds ← found (levels s.max_definition s.triplets p.definitions)
  vs ← values s.encoding s.kind dictionary (count_equal s.max_definition ds)
  give (join_triplets s.max_definition rs ds vs)

-- the triplets of what was read
abbrev pub triplets_read : Reading PageFault (List Triplet) → Option (List Triplet)
triplets_read (got ts rest) = Some ts
triplets_read (refused e rest) = None

-- the triplets that a body spells, if it does, with the chunk's dictionary
unfoldable pub page_triplets : PageShape → List Value → List ℕ → Option (List Triplet)
page_triplets s dictionary bytes = triplets_read (page_body s dictionary bytes)

-- ---- what is written: levels in RLE, values PLAIN

-- the hybrid data that is written for levels: none where the greatest is 0
abbrev pub level_data : ℕ → List ℕ → List ℕ
level_data zero ls = []
level_data (suc g) ls = hybrid_bytes (level_width (suc g)) ls

-- bytes behind their number in four bytes
abbrev pub behind_length : List ℕ → List ℕ
behind_length part = little_endian_bytes 4 (length part) ++ part

-- the level part that is written: in a V1 page with its length before it, where there is one
abbrev pub level_bytes : PageForm → ℕ → List ℕ → List ℕ
level_bytes data_page_v1 zero ls = []
level_bytes data_page_v1 (suc g) ls = behind_length (level_data (suc g) ls)
level_bytes data_page_v2 g ls = level_data g ls

-- the repetition levels of a column
abbrev pub column_repetitions : List Triplet → List ℕ
column_repetitions ts = map (λ (t : Triplet). t.repetition) ts

-- its definition levels
abbrev pub column_definitions : List Triplet → List ℕ
column_definitions ts = map (λ (t : Triplet). t.definition) ts

-- a value before the others, if there is one
abbrev pub with_value : Option Value → List Value → List Value
with_value None vs = vs
with_value (Some v) vs = v ∷ vs

-- the values of a column, without its NULLs
abbrev pub column_values : List Triplet → List Value
column_values [] = []
column_values (t ∷ ts) = with_value t.value (column_values ts)

-- the body of a page of this form that is written for triplets
unfoldable pub body_bytes : PageForm → Kind → ℕ → ℕ → List Triplet → List ℕ
body_bytes form k max_r max_d ts =
    level_bytes form max_r (column_repetitions ts) ++ (level_bytes form max_d (column_definitions ts) ++ plain_bytes k (column_values ts))

-- ---- the columns that can be written

-- whether there is a value
abbrev pub has_value : Option Value → Bool
has_value None = false
has_value (Some v) = true

-- whether the value, if there is one, can be written as one of the kind
abbrev pub is_value_of : Kind → Option Value → Bool
is_value_of k None = true
is_value_of k (Some v) = is_writable k v

-- whether two tests agree
abbrev pub same_truth : Bool → Bool → Bool
same_truth true b = b
same_truth false true = false
same_truth false false = true

-- whether levels are at most the greatest, with a value of the kind exactly where the definition level is the greatest
abbrev pub is_triplet : Kind → ℕ → ℕ → Triplet → Bool
is_triplet k max_r max_d t =
    nat_le t.repetition max_r && nat_le t.definition max_d && same_truth (t.definition == max_d) (has_value t.value) && is_value_of k t.value
