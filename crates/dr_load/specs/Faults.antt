-- What the faults of this crate stand for.
use Rattle.std.specs.Prelude.{Bool, true, false, Option, Some, None}
use Rattle.dr_meaning.specs.Lines.{Refusal, line_too_long, too_many_records, no_record}
use Rattle.dr_json.specs.Faults.{record_problem_view}
use Rattle.dr_outside.specs.declared.fault.Fault.{Fault}
use Rattle.dr_input.specs.declared.fault.LineProblem.{LineProblem}
use Rattle.dr_input.specs.declared.fault.InputFault.{InputFault}
use Rattle.dr_load.specs.declared.fault.LoadFault.{LoadFault}

-- the refusal of a line; want of memory and what failed outside stand for none
abbrev pub refusal_of : LoadFault → Option Refusal
refusal_of LoadFault.NoMemory = None
refusal_of (LoadFault.BadLine n w) = Some (record { line = n; fault = no_record (record_problem_view w) })
refusal_of (LoadFault.LineTooLong n) = Some (record { line = n; fault = line_too_long })
refusal_of (LoadFault.TooManyRecords n) = Some (record { line = n; fault = too_many_records })
refusal_of LoadFault.ReadFault = None
refusal_of LoadFault.KeepFault = None

-- the fault of a keeper's call
abbrev pub of_outside : Fault → LoadFault
of_outside Fault.Failed = LoadFault.KeepFault
of_outside Fault.NoMemory = LoadFault.NoMemory

-- whether the keeper tells of a put that failed so: not where memory was wanting for it
abbrev pub is_told : LoadFault → Bool
is_told LoadFault.NoMemory = false
is_told (LoadFault.BadLine n w) = true
is_told (LoadFault.LineTooLong n) = true
is_told (LoadFault.TooManyRecords n) = true
is_told LoadFault.ReadFault = true
is_told LoadFault.KeepFault = true

-- the fault of an input
abbrev pub of_input : InputFault → LoadFault
of_input InputFault.NoMemory = LoadFault.NoMemory
of_input InputFault.Source = LoadFault.ReadFault
of_input (InputFault.Refused n LineProblem.TooLong) = LoadFault.LineTooLong n
of_input (InputFault.Refused n LineProblem.TooManyRecords) = LoadFault.TooManyRecords n
of_input (InputFault.Refused n (LineProblem.Record w)) = LoadFault.BadLine n w
