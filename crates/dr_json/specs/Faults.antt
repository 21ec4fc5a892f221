-- What the faults of this crate stand for.
use Rattle.std.specs.Prelude.{Option, Some, None}
use Rattle.dr_meaning.specs.JsonRecord as line
use Rattle.dr_json.specs.declared.fault.RecordProblem.{RecordProblem}
use Rattle.dr_json.specs.declared.fault.RecordFault.{RecordFault}

abbrev pub record_problem_view : RecordProblem → line.RecordFault
record_problem_view RecordProblem.NotJson = line.not_json
record_problem_view RecordProblem.UnknownField = line.unknown_field
record_problem_view RecordProblem.MissingField = line.missing_field
record_problem_view RecordProblem.WrongKind = line.wrong_kind
record_problem_view RecordProblem.OutOfRange = line.out_of_range
record_problem_view RecordProblem.NullElement = line.null_element
record_problem_view RecordProblem.TooLarge = line.too_large

-- want of memory stands for no fault of the definitions
abbrev pub record_fault_view : RecordFault → Option line.RecordFault
record_fault_view RecordFault.NoMemory = None
record_fault_view (RecordFault.Refused w) = Some (record_problem_view w)
