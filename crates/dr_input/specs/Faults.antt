-- What the faults of this crate stand for.
use Rattle.dr_meaning.specs.Lines.{LineFault, line_too_long, too_many_records, no_record}
use Rattle.dr_json.specs.Faults.{record_problem_view}
use Rattle.dr_input.specs.declared.fault.LineProblem.{LineProblem}

abbrev pub line_problem_view : LineProblem → LineFault
line_problem_view LineProblem.TooLong = line_too_long
line_problem_view LineProblem.TooManyRecords = too_many_records
line_problem_view (LineProblem.Record w) = no_record (record_problem_view w)
