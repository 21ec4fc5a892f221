-- A law of queries that links serve.
use Rattle.std.specs.Prelude.{◌≡◌, ℕ, suc, List, [], ◌∷◌, Option, Ok, if◌then◌else◌, nat_eq}
use Rattle.dr_meaning.specs.Record.{Node}
use Rattle.dr_sub_meaning.specs.Nested.{NestedQuery}
use Rattle.dr_sub_meaning.specs.NestedAsk.{read_nested, nested_answer_text}
use Rattle.dr_formats.specs.TableFile.{Table}
use Rattle.dr_outside.specs.Link.{Files}
use Rattle.dr_reading.specs.Left.{LeftTablet}
use Rattle.dr_reading.specs.Scan.{joined, tablets_of}
use Rattle.dr_reading.specs.Premises.{TabletsHold}
use Rattle.dr_reading.specs.ServingPremises.{AllTell}
use Rattle.dr_serve.specs.Counted.{AreCounted}
use Rattle.dr_commands.specs.Query.{query_scan}

-- the records of each tablet, the first of which is the tth, but of those that are left none
abbrev pub counted_records : ℕ → List LeftTablet → List (List Node) → List (List Node)
counted_records t [] Rs = Rs
counted_records t (l ∷ left) [] = []
counted_records t (l ∷ left) (R ∷ Rs) = if nat_eq l.tablet t then counted_records (suc t) left Rs else (R ∷ counted_records (suc t) (l ∷ left) Rs)

-- all links tell what they hold, one path holds the same for all, and each copy of each tablet holds a file of the tablet's records, or none of any
-- records, or nothing: what is printed of the records that are counted is what the query means on the records of the tablets that aren't left, each
-- counted once, whichever link gave them
abbrev pub ServedPrintsMeaning : Type 0
ServedPrintsMeaning = (t : Table) (text : List ℕ) (n : NestedQuery) (files : Files) (links : List (Option Files)) (left : List LeftTablet) (Rs Ss : List (List Node))
    → read_nested t.schema text ≡ Ok n → AllTell files links → TabletsHold t.schema (query_scan t n).leaves files (tablets_of t) Rs
    → AreCounted t.schema (query_scan t n).leaves links 0 (tablets_of t) left Ss → (query_scan t n).text (joined Ss) ≡ nested_answer_text t.schema n (joined (counted_records 0 left Rs))
