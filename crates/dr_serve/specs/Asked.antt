-- A table whose records are held for sure, and the answer to an input's records.
use Rattle.std.specs.Prelude.{◌≡◌, ℕ, List, Option, Some, None, Ok}
use Rattle.dr_meaning.specs.Schema.{Schema}
use Rattle.dr_meaning.specs.Path.{Leaf, leaves}
use Rattle.dr_meaning.specs.Record.{Node}
use Rattle.dr_meaning.specs.Lines.{records_of}
use Rattle.dr_meaning.specs.Ask.{most_asked}
use Rattle.dr_sub_meaning.specs.Nested.{NestedQuery}
use Rattle.dr_sub_meaning.specs.NestedAsk.{nested_answer_text}
use Rattle.dr_formats.specs.Page.{PageForm}
use Rattle.dr_formats.specs.TableFile.{Table}
use Rattle.dr_formats.specs.WritingLaws.{AreAmong}
use Rattle.dr_outside.specs.Link.{Files}
use Rattle.dr_reading.specs.Scan.{joined, tablets_of}
use Rattle.dr_load.specs.Loaded.{TabletsAreFiles}

-- these records are those of a table that is held: each copy of each tablet is a file of the tablet's in pages of one form, for any leaves of the schema
abbrev pub HoldsTableOf : Table → Option Files → List Node → Type 0
HoldsTableOf t None R = ⊥
HoldsTableOf t (Some files) R = (form : PageForm) × (Rs : List (List Node)) × (joined Rs ≡ R)
    × ((F : List Leaf) → AreAmong (leaves t.schema.fields) F → TabletsAreFiles form t.schema F files (tablets_of t) Rs)

-- a text is what a query prints of the records of an input, where a tablet has so many of them
abbrev pub IsAnswerTo : Schema → NestedQuery → ℕ → List ℕ → List ℕ → Type 0
IsAnswerTo s n rows text input = (R : List Node) × (records_of s.fields (most_asked rows) input ≡ Ok R) × (text ≡ nested_answer_text s n R)
