-- What a condition keeps of rows of columns side by side, by computation.
use Rattle.std.specs.Prelude.{◌≡◌, ℕ, List, [], ◌∷◌, map, Bool, true, false, None, is_some, refl}
use Rattle.std.specs.List.{list_all, flat_map}
use Rattle.dr_meaning.specs.Record.{Node, no_slots, slot, is_record}
use Rattle.dr_meaning.specs.Column.{Triplet, triplet, column}
use Rattle.dr_meaning.specs.Rows.{rows, value_at}
use Rattle.dr_kept_laws.specs.RowsOfKept.{kept_rows}
use Rattle.dr_meaning.proofs.WorkedSchemas.{document}
use Rattle.dr_meaning.proofs.WorkedRecords.{record_10, record_20, numbers}
use Rattle.dr_meaning.proofs.WorkedPaths.{name, language_level, country, url}
use Rattle.dr_beside.specs.Sifting.{any_until, bits_at, next_bit, rest_bits, if_kept, sift, KeptBeside}

abbrev both : List Node
both = record_10 ∷ record_20 ∷ []

-- triplets of these repetition levels
abbrev at_levels : List ℕ → List Triplet
at_levels rs = map (λ r. triplet r 0 None) rs

-- those of the five languages
abbrev five : List Triplet
five = at_levels (0 ∷ 2 ∷ 1 ∷ 1 ∷ 0 ∷ [])

-- ---- bits

pub one_until : map (λ bs. any_until 1 (at_levels (2 ∷ 2 ∷ 1 ∷ [])) bs) ((false ∷ true ∷ false ∷ []) ∷ (true ∷ false ∷ false ∷ []) ∷ (false ∷ false ∷ true ∷ []) ∷ (true ∷ []) ∷ (false ∷ []) ∷ [] ∷ [])
    ≡ true ∷ true ∷ false ∷ true ∷ false ∷ false ∷ []
one_until = refl

pub until_ends : (any_until 1 [] (true ∷ []) ≡ false) × (any_until 1 (at_levels (1 ∷ [])) (true ∷ []) ≡ false) × (any_until 1 (at_levels (0 ∷ [])) (true ∷ []) ≡ false)
until_ends = (refl, refl, refl)

abbrev answers : List Bool
answers = false ∷ true ∷ false ∷ true ∷ false ∷ []

-- for each language, each name, each record
pub bits_at_2 : bits_at 2 five answers ≡ answers
bits_at_2 = refl

pub bits_at_1 : bits_at 1 five answers ≡ true ∷ false ∷ true ∷ false ∷ []
bits_at_1 = refl

pub bits_at_0 : bits_at 0 five answers ≡ true ∷ false ∷ []
bits_at_0 = refl

pub first_bit : bits_at 1 five (true ∷ false ∷ false ∷ false ∷ true ∷ []) ≡ true ∷ false ∷ false ∷ true ∷ []
first_bit = refl

pub bits_end : (bits_at 1 [] (true ∷ []) ≡ []) × (bits_at 1 five [] ≡ []) × (bits_at 1 five (false ∷ []) ≡ false ∷ [])
bits_end = (refl, refl, refl)

-- ---- rows

-- a row, by a number
abbrev row : ℕ → Node
row n = slot (numbers (n ∷ [])) no_slots

abbrev five_rows : List Node
five_rows = row 0 ∷ row 1 ∷ row 2 ∷ row 3 ∷ row 4 ∷ []

pub one_row : (if_kept true (row 0) (row 1 ∷ []) ≡ row 0 ∷ row 1 ∷ []) × (if_kept false (row 0) (row 1 ∷ []) ≡ row 1 ∷ [])
one_row = (refl, refl)

pub bits_taken : (next_bit true [] ≡ true) × (next_bit false [] ≡ false) × (next_bit false (true ∷ false ∷ []) ≡ true) × (next_bit true (false ∷ true ∷ []) ≡ false) × (rest_bits [] ≡ []) × (rest_bits (true ∷ false ∷ []) ≡ false ∷ [])
bits_taken = (refl, refl, refl, refl, refl, refl)

pub sifted_at_1 : sift 1 false (true ∷ false ∷ true ∷ false ∷ []) five five_rows ≡ row 0 ∷ row 1 ∷ row 3 ∷ []
sifted_at_1 = refl

pub sifted_at_0 : sift 0 false (false ∷ true ∷ []) five five_rows ≡ row 4 ∷ []
sifted_at_0 = refl

pub sifted_at_2 : sift 2 false (true ∷ false ∷ true ∷ false ∷ true ∷ []) five five_rows ≡ row 0 ∷ row 2 ∷ row 4 ∷ []
sifted_at_2 = refl

-- before the first bit that is taken, and behind the last
pub sifted_ends : (sift 0 true (false ∷ []) (at_levels (1 ∷ 0 ∷ 1 ∷ [])) five_rows ≡ row 0 ∷ []) × (sift 0 true [] five five_rows ≡ five_rows) × (sift 0 false [] five five_rows ≡ [])
    × (sift 0 true (true ∷ []) [] five_rows ≡ []) × (sift 0 true (true ∷ []) five [] ≡ [])
sifted_ends = (refl, refl, refl, refl, refl)

-- ---- the law, of names with a language that has a country

abbrev has_country : Node → Bool
has_country m = is_some (value_at country m)

pub names_kept : sift 1 false (bits_at 1 (column country both) (map has_country (flat_map (rows language_level) both))) (column url both) (flat_map (rows name) both)
    ≡ flat_map (kept_rows name language_level has_country) both
names_kept = refl

pub kept_said : KeptBeside → (R : List Node) (test : Node → Bool) → list_all (is_record document) R ≡ true
    → sift 1 false (bits_at 1 (column country R) (map test (flat_map (rows language_level) R))) (column url R) (flat_map (rows name) R) ≡ flat_map (kept_rows name language_level test) R
kept_said law R test ok = law document url country R test refl refl ok
