-- Triplets that no records have, and columns of leaves together, by computation: by a law of `dr_meaning`, triplets are the column of a leaf in some
-- records exactly where `is_column` holds.
use Rattle.std.specs.Prelude.{◌≡◌, ℕ, ◌-◌, ◌^◌, List, [], ◌∷◌, map, length, true, false, pos, negsuc, Option, Some, None, codes, refl}
use Rattle.std.specs.Str.{is_utf8, chars}
use Rattle.std.proofs.Common.{ap, arith}
use Rattle.dr_meaning.specs.Schema.{Fields, no_fields, field, leaf, group, Kind, required, optional, repeated, bool_kind, int32_kind, int64_kind, text_kind}
use Rattle.dr_meaning.specs.Path.{Step, Leaf, leaves}
use Rattle.dr_meaning.specs.Record.{Value, bool_value, int_value, text_value, Node, gap, no_slots, project}
use Rattle.dr_meaning.specs.Column.{Triplet, triplet, column}
use Rattle.dr_meaning.specs.OneColumn.{is_column}
use Rattle.dr_meaning.proofs.WorkedRecords.{record_10, record_20, record_30}
use Rattle.dr_meaning.proofs.WorkedPaths.{doc_id, backward, forward, code, country, url}

-- message Small { required int32 Count; optional boolean Flag; repeated group Part { optional string Text; repeated int64 Size; } }
abbrev small : Fields
small = field (codes "Count") required (leaf int32_kind) (field (codes "Flag") optional (leaf bool_kind)
    (field (codes "Part") repeated (group (field (codes "Text") optional (leaf text_kind) (field (codes "Size") repeated (leaf int64_kind) no_fields))) no_fields))

abbrev leaf_at : List Step → Kind → Leaf
leaf_at p k = record { names = []; path = p; kind = k }

abbrev count : Leaf
count = leaf_at (record { place = 0; repetition = required } ∷ []) int32_kind

abbrev flag : Leaf
flag = leaf_at (record { place = 1; repetition = optional } ∷ []) bool_kind

abbrev part_text : Leaf
part_text = leaf_at (record { place = 2; repetition = repeated } ∷ record { place = 0; repetition = optional } ∷ []) text_kind

-- these are leaves of that schema
pub are_leaves : map (λ (l : Leaf). leaf_at l.path l.kind) (leaves small) ≡ count ∷ flag ∷ part_text
    ∷ leaf_at (record { place = 2; repetition = repeated } ∷ record { place = 1; repetition = repeated } ∷ []) int64_kind ∷ []
are_leaves = refl

abbrev truth : Option Value
truth = Some (bool_value true)

abbrev number : ℕ → Option Value
number n = Some (int_value (pos n))

abbrev text : List ℕ → Option Value
text t = Some (text_value t)

-- a value of another kind, one out of range, one missing; a value below the greatest level
pub other_values : (is_column count 1 (triplet 0 0 truth ∷ []) ≡ false) × (is_column count 1 (triplet 0 0 (number (2 ^ 31)) ∷ []) ≡ false) × (is_column count 1 (triplet 0 0 None ∷ []) ≡ false)
    × (is_column flag 1 (triplet 0 0 truth ∷ []) ≡ false) × (is_column part_text 1 (triplet 0 1 (text (codes "a")) ∷ []) ≡ false)
unfolding is_utf8 chars lib.Utf8.encode
other_values = (refl, refl, refl, refl, refl)

-- levels above the greatest
pub other_levels : (is_column count 1 (triplet 0 1 (number 1) ∷ []) ≡ false) × (is_column flag 1 (triplet 0 2 truth ∷ []) ≡ false)
    × (is_column count 1 (triplet 0 0 (number 1) ∷ triplet 1 0 (number 2) ∷ []) ≡ false) × (is_column part_text 1 (triplet 0 2 (text (codes "a")) ∷ triplet 2 2 (text (codes "b")) ∷ []) ≡ false)
unfolding is_utf8 chars lib.Utf8.encode
other_levels = (refl, refl, refl, refl)

-- without these mistakes they are columns
pub right_ones : (is_column count 1 (triplet 0 0 (number 1) ∷ []) ≡ true) × (is_column count 1 (triplet 0 0 (number (2 ^ 31 - 1)) ∷ []) ≡ true) × (is_column flag 1 (triplet 0 1 truth ∷ []) ≡ true)
    × (is_column part_text 1 (triplet 0 2 (text (codes "a")) ∷ triplet 1 2 (text (codes "b")) ∷ []) ≡ true)
unfolding is_utf8 chars lib.Utf8.encode
right_ones = (refl, refl, refl, refl)

-- ---- several leaves

abbrev columns_of : List (List Step) → List (List Triplet)
columns_of ps = map (λ p. column p (record_10 ∷ record_20 ∷ [])) ps

abbrev ids : List Triplet
ids = triplet 0 0 (number 10) ∷ triplet 0 0 (number 20) ∷ []

abbrev backwards : List Triplet
backwards = triplet 0 1 None ∷ triplet 0 2 (number 10) ∷ triplet 1 2 (number 30) ∷ []

abbrev forwards : List Triplet
forwards = triplet 0 2 (number 20) ∷ triplet 1 2 (number 40) ∷ triplet 1 2 (number 60) ∷ triplet 0 2 (number 80) ∷ []

abbrev language_codes : List Triplet
language_codes = triplet 0 2 (text (codes "en-us")) ∷ triplet 2 2 (text (codes "en")) ∷ triplet 1 1 None ∷ triplet 1 2 (text (codes "en-gb")) ∷ triplet 0 1 None ∷ []

abbrev countries : List Triplet
countries = triplet 0 3 (text (codes "us")) ∷ triplet 2 2 None ∷ triplet 1 1 None ∷ triplet 1 3 (text (codes "gb")) ∷ triplet 0 1 None ∷ []

abbrev urls : List Triplet
urls = triplet 0 2 (text (codes "http://A")) ∷ triplet 1 2 (text (codes "http://B")) ∷ triplet 1 1 None ∷ triplet 0 2 (text (codes "http://C")) ∷ []

-- in the order of the selection: all leaves, in another order, one alone, none
pub selections : (columns_of (doc_id ∷ backward ∷ forward ∷ code ∷ country ∷ url ∷ []) ≡ ids ∷ backwards ∷ forwards ∷ language_codes ∷ countries ∷ urls ∷ [])
    × (columns_of (country ∷ forward ∷ url ∷ code ∷ doc_id ∷ backward ∷ []) ≡ countries ∷ forwards ∷ urls ∷ language_codes ∷ ids ∷ backwards ∷ [])
    × (columns_of (country ∷ []) ≡ countries ∷ []) × (columns_of [] ≡ [])
selections = (refl, refl, refl, refl)

-- records without fields are left of two, of none and of three, where no leaf is selected
pub without_leaves : (map (project []) (record_10 ∷ record_20 ∷ []) ≡ gap (gap (gap no_slots)) ∷ gap (gap (gap no_slots)) ∷ []) × (map (project []) [] ≡ [])
    × (map (project []) (record_10 ∷ record_20 ∷ record_30 ∷ []) ≡ gap (gap (gap no_slots)) ∷ gap (gap (gap no_slots)) ∷ gap (gap (gap no_slots)) ∷ [])
without_leaves = (refl, refl, refl)

-- ---- columns that no records have together

abbrev NoneHave : List (List Step) → List (List Triplet) → Type 0
NoneHave ps cs = (R : List Node) → map (λ (p : List Step). column p R) ps ≡ cs → ⊥

-- fewer or more columns than leaves
pub no_column : NoneHave (doc_id ∷ []) []
no_column R e = omega (arith, ap length e)

pub two_columns : NoneHave (doc_id ∷ []) (ids ∷ ids ∷ [])
two_columns R e = omega (arith, ap length e)

-- two columns of one leaf that differ
abbrev one : ℕ → List Triplet
one n = triplet 0 0 (number n) ∷ []

abbrev number_in : Option Value → ℕ
number_in None = 0
number_in (Some (bool_value b)) = 0
number_in (Some (int_value (pos n))) = n
number_in (Some (int_value (negsuc n))) = 0
number_in (Some (text_value t)) = 0

abbrev first_number : List Triplet → ℕ
first_number [] = 0
first_number (t ∷ ts) = number_in t.value

same_ones : {A : Type 0} (a b c : A) → a ∷ a ∷ [] ≡ b ∷ c ∷ [] → b ≡ c
same_ones a b c e = cc

pub twice : NoneHave (doc_id ∷ doc_id ∷ []) (one 1 ∷ one 2 ∷ [])
twice R e = omega (arith, ap first_number (same_ones (column doc_id R) (one 1) (one 2) e))
