-- Why the next line gives no record.
use Rattle.std.specs.Prelude.{◌≡◌, ℕ, List, Option, Result, Ok, Err, ⊤}
use Rattle.dr_meaning.specs.Schema.{Fields}
use Rattle.dr_meaning.specs.Record as tree
use Rattle.dr_meaning.specs.JsonRecord.{RecordFault}
use Rattle.dr_json.specs.Faults.{record_problem_view}
use Rattle.dr_json.specs.Parts.{line_node}
use Rattle.dr_json.specs.declared.record.LineRecord.{LineRecord}
use Rattle.dr_lines.specs.Cutting.{BeginsLine}
use Rattle.dr_lines.specs.declared.cutter.LineFault.{LineFault}
use Rattle.dr_outside.specs.Faults.{raised}
use Rattle.dr_outside.specs.Source.{SourceShown}
use Rattle.dr_input.specs.Taken.{RefusesNext}
use Rattle.dr_input.specs.Faults.{line_problem_view}
use Rattle.dr_input.specs.declared.fault.LineProblem.{LineProblem}
use Rattle.dr_input.specs.declared.fault.InputFault.{InputFault}

-- a line is refused by this number; want of memory may come in place of any answer
abbrev pub RefusesLine : Result tree.Node RecordFault → ℕ → InputFault → Type 0
RefusesLine meant number InputFault.NoMemory = ⊤
RefusesLine meant number InputFault.Source = ⊥
RefusesLine meant number (InputFault.Refused n (LineProblem.Record w)) = (n ≡ number) × (meant ≡ Err (record_problem_view w))
RefusesLine meant number (InputFault.Refused n w) = ⊥

-- a line's record, or the line is refused by this number
abbrev pub ReadsLine : Result tree.Node RecordFault → ℕ → Result LineRecord InputFault → Type 0
ReadsLine meant number (Ok r) = meant ≡ Ok (line_node r)
ReadsLine meant number (Err e) = RefusesLine meant number e

-- the fault of a line that isn't there
abbrev pub line_fault_in : LineFault → ℕ → InputFault
line_fault_in LineFault.ReadFault number = InputFault.Source
line_fault_in LineFault.TooLong number = InputFault.Refused number LineProblem.TooLong

-- why the next line gives no record, behind so many lines: memory was wanting; the source failed, and gave no whole line of what was left; the line is refused
abbrev pub NextStops : Fields → ℕ → ℕ → Option (List ℕ) → SourceShown → SourceShown → InputFault → Type 0
NextStops fs most number left before now InputFault.NoMemory = now.faults ≡ before.faults
NextStops fs most number left before now InputFault.Source = (now.faults ≡ raised before.faults) × BeginsLine left now.left
NextStops fs most number left before now (InputFault.Refused n w) =
    (now.faults ≡ before.faults) × RefusesNext fs most number left (record { line = n; fault = line_problem_view w })
