-- What a line that was read gives columns.
use Rattle.std.specs.Prelude.{◌≡◌, ℕ, List, [], ◌∷◌, true, Option, Result, Ok, Err}
use Rattle.std.specs.List.{list_all}
use Rattle.dr_meaning.specs.Schema.{Fields}
use Rattle.dr_meaning.specs.Path.{Step, Leaf}
use Rattle.dr_meaning.specs.Record.{Node, is_record}
use Rattle.dr_meaning.specs.Column.{Triplet, record_column}
use Rattle.dr_meaning.specs.JsonRecord.{RecordFault, record_of_line}
use Rattle.dr_formats.specs.WritingLaws.{is_limited}
use Rattle.dr_striper.specs.Striping.{gained}
use Rattle.dr_striper.specs.Stripers.{fits_leaf, striped, striped_paths}
use Rattle.dr_striper.specs.declared.making.Striper.{Striper}
use Rattle.dr_input.specs.Taken.{HasTaken}
use Rattle.dr_input.specs.Stops.{RefusesLine}
use Rattle.dr_input.specs.Records.{fields_of, most_of, number_of, left_of}
use Rattle.dr_input.specs.declared.fault.InputFault.{InputFault}
use Rattle.dr_input.specs.declared.reader.Records.{Records}

-- each leaf takes what any record of the fields gives it
abbrev pub TakesRecords : Fields → List Leaf → Type 0
TakesRecords fs ls = (n : Node) → is_record fs n ≡ true → list_all (fits_leaf n) ls ≡ true

-- the columns of these paths gained the record's
abbrev pub Gains : Node → List (List Step) → List (List Triplet) → List (List Triplet) → Type 0
Gains n paths before now = now ≡ gained (λ p. record_column p n) paths before

-- a line's record joined the columns; or it is refused by this number, and they are as they were
abbrev pub StripesLine : Fields → Result Node RecordFault → ℕ → List (List Step) → List (List Triplet) → List (List Triplet) → Result (Unit {0}) InputFault → Type 0
StripesLine fs meant number paths before now (Ok done) = (n : Node) × (meant ≡ Ok n) × (is_record fs n ≡ true) × Gains n paths before now
StripesLine fs meant number paths before now (Err e) = RefusesLine meant number e × (now ≡ before)

-- the same of the bytes of a line, and the columns of a striper
abbrev pub StripesBytes : Fields → List ℕ → ℕ → Striper → Striper → Result (Unit {0}) InputFault → Type 0
StripesBytes fs line number before now result = StripesLine fs (record_of_line fs line) number (striped_paths before) (striped before) (striped now) result

-- behind so many lines, the next line of what was left is a record, and it joined the columns
pub record StripesNext (fs : Fields) (most number : ℕ) (left now : Option (List ℕ)) (paths : List (List Step)) (before after : List (List Triplet)) : Type 0 where
  pub node : Node
  pub form : is_record fs node ≡ true
  pub limited : is_limited node ≡ true
  pub taken : HasTaken fs most number (node ∷ []) left now
  pub gains : Gains node paths before after

-- the same of the columns of a striper
abbrev pub GainsNext : Fields → ℕ → ℕ → Option (List ℕ) → Option (List ℕ) → Striper → Striper → Type 0
GainsNext fs most number left now before after = StripesNext fs most number left now (striped_paths before) (striped before) (striped after)

-- and of a reader of records, where this is what the source has left
abbrev pub ReadsNext : Records → Records → Option (List ℕ) → Option (List ℕ) → Striper → Striper → Type 0
ReadsNext r r' left now before after = GainsNext (fields_of r) (most_of r) (number_of r) (left_of r left) (left_of r' now) before after
