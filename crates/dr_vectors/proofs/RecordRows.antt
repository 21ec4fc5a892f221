-- Rows of the worked records: the values of leaves in them, and whether an instance stands at the end of their level, by computation.
use Rattle.std.specs.Prelude.{◌≡◌, ℕ, List, [], ◌∷◌, map, Bool, true, false, pos, Option, Some, None, codes, refl}
use Rattle.std.specs.List.{flat_map}
use Rattle.dr_meaning.specs.Path.{Step}
use Rattle.dr_meaning.specs.Record.{Value, int_value, text_value, Node, Instances, no_instances, instance, count_instances, instances_at, instances_in}
use Rattle.dr_meaning.specs.Rows.{rows, value_at, is_present}
use Rattle.dr_meaning.proofs.WorkedRecords.{record_10, record_20, record_30}
use Rattle.dr_meaning.proofs.WorkedPaths.{doc_id, name, language_level, country, url}

abbrev number : ℕ → Option Value
number n = Some (int_value (pos n))

abbrev text : List ℕ → Option Value
text t = Some (text_value t)

-- the values of leaves in a row, and whether an instance stands at the end of the level
record Seen : Type 0 where
  values : List (Option Value)
  present : Bool

abbrev seen : List (Option Value) → Bool → Seen
seen vs b = record { values = vs; present = b }

abbrev seen_rows : List (List Step) → List Step → List Node → List Seen
seen_rows leaves level rs = map (λ row. seen (map (λ p. value_at p row) leaves) (is_present level row)) rs

abbrev three : List (List Step)
three = doc_id ∷ url ∷ country ∷ []

abbrev three_values : ℕ → Option Value → Option Value → List (Option Value)
three_values n u c = number n ∷ u ∷ c ∷ []

abbrev languages : List Seen
languages = seen (three_values 10 (text (codes "http://A")) (text (codes "us"))) true ∷ seen (three_values 10 (text (codes "http://A")) None) true
    ∷ seen (three_values 10 (text (codes "http://B")) None) false ∷ seen (three_values 10 None (text (codes "gb"))) true ∷ []

-- at the record, at the names, at their languages
pub rows_of_10 : (seen_rows (doc_id ∷ []) [] (rows [] record_10) ≡ seen (number 10 ∷ []) true ∷ [])
    × (seen_rows (doc_id ∷ url ∷ []) name (rows name record_10) ≡ seen (number 10 ∷ text (codes "http://A") ∷ []) true
    ∷ seen (number 10 ∷ text (codes "http://B") ∷ []) true ∷ seen (number 10 ∷ None ∷ []) true ∷ [])
    × (seen_rows three language_level (rows language_level record_10) ≡ languages)
rows_of_10 = (refl, refl, refl)

-- a name without languages, and a record without names
pub rows_without_languages : (seen_rows three language_level (rows language_level record_20) ≡ seen (three_values 20 (text (codes "http://C")) None) false ∷ [])
    × (seen_rows three language_level (rows language_level record_30) ≡ seen (three_values 30 None None) false ∷ [])
rows_without_languages = (refl, refl)

-- the rows of a level lie in those of the level above it
pub rows_within_rows : seen_rows three language_level (flat_map (rows language_level) (rows name record_10)) ≡ languages
rows_within_rows = refl

-- how many instances of the field at a place the first of these has
abbrev counted_in_first : ℕ → Instances → ℕ
counted_in_first i no_instances = 0
counted_in_first i (instance x xs) = count_instances (instances_in i x)

-- a value has none, the first name two languages
pub instances_of_instances : (counted_in_first 0 (instances_at 0 record_10) ≡ 0) × (counted_in_first 0 (instances_at 2 record_10) ≡ 2)
instances_of_instances = (refl, refl)
