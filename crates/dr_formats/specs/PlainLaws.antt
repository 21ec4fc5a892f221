-- Laws of PLAIN values and page bodies.
use Rattle.std.specs.Prelude.{◌≡◌, ℕ, ◌^◌, ◌<◌, ◌≤◌, List, ◌++◌, length, true, pos, Some}
use Rattle.std.specs.List.{list_all}
use Rattle.dr_meaning.specs.Schema.{Kind}
use Rattle.dr_meaning.specs.Record.{Value}
use Rattle.dr_meaning.specs.Column.{Triplet}
use Rattle.dr_formats.specs.Reading.{IsReadAs}
use Rattle.dr_formats.specs.Plain.{plain, plain_bytes, is_writable}
use Rattle.dr_formats.specs.Page.{PageForm, PageShape, page_triplets, level_data, column_repetitions, column_definitions, body_bytes, is_triplet}

-- what is written for values of a kind is read as these values, whatever follows it
abbrev pub WrittenValuesAreRead : Type 0
WrittenValuesAreRead = (k : Kind) (vs : List Value) → list_all (is_writable k) vs ≡ true → IsReadAs (plain k (length vs)) (plain_bytes k vs) vs

-- the shape of a page of this form as it is written for triplets
abbrev pub written_shape : PageForm → Kind → ℕ → ℕ → List Triplet → PageShape
written_shape form k max_r max_d ts = record {
  form = form;
  triplets = length ts;
  encoding = pos 0;
  definition_encoding = pos 3;
  repetition_encoding = pos 3;
  definition_bytes = length (level_data max_d (column_definitions ts));
  repetition_bytes = length (level_data max_r (column_repetitions ts));
  kind = k;
  max_repetition = max_r;
  max_definition = max_d;
}

-- the body that is written for triplets is read as these triplets, whatever follows it
abbrev pub WrittenBodyIsRead : Type 0
WrittenBodyIsRead = (form : PageForm) (k : Kind) (max_r max_d : ℕ) (ts : List Triplet) (dictionary : List Value) (rest : List ℕ) → max_r ≤ 32 → max_d ≤ 32
    → length ts < 2 ^ 31 → list_all (is_triplet k max_r max_d) ts ≡ true
    → page_triplets (written_shape form k max_r max_d ts) dictionary (body_bytes form k max_r max_d ts ++ rest) ≡ Some ts
