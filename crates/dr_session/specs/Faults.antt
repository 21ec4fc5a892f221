-- What the faults of this crate stand for, and how a line is answered.
use Rattle.std.specs.Prelude.{◌≡◌, Result, Ok, Err, ⊤, String, string_bytes}
use Rattle.std.specs.declared.alloc.Global.{Global}
use Rattle.dr_sub_meaning.specs.Session as session
use Rattle.dr_sub_meaning.specs.Session.{SessionFault, Heard, line_too_long, too_many_lines, too_many_records, no_record, full, query_refused, no_command}
use Rattle.dr_json.specs.Faults.{record_problem_view}
use Rattle.dr_json.specs.declared.fault.RecordFault.{RecordFault}
use Rattle.dr_sub.specs.Texts.{refusal_of}
use Rattle.dr_sub.specs.declared.refusal.TextFault.{TextFault}
use Rattle.dr_session.specs.declared.fault.SessionProblem.{SessionProblem}
use Rattle.dr_session.specs.declared.fault.HearFault.{HearFault}

abbrev pub problem_view : SessionProblem → SessionFault
problem_view SessionProblem.TooLong = line_too_long
problem_view SessionProblem.TooManyLines = too_many_lines
problem_view SessionProblem.TooManyRecords = too_many_records
problem_view (SessionProblem.Record p) = no_record (record_problem_view p)
problem_view SessionProblem.Full = full
problem_view (SessionProblem.Query place p) = query_refused (refusal_of place p)
problem_view SessionProblem.Command = no_command

-- ---- the faults that are handed on

abbrev pub of_record : RecordFault → HearFault
of_record RecordFault.NoMemory = HearFault.NoMemory
of_record (RecordFault.Refused p) = HearFault.Refused (SessionProblem.Record p)

abbrev pub of_query : TextFault → HearFault
of_query TextFault.NoMemory = HearFault.NoMemory
of_query (TextFault.Refused place p) = HearFault.Refused (SessionProblem.Query place p)

-- ---- answers

-- the line is refused so; want of memory may come in place of any answer
abbrev pub IsRefusedLine : Result Heard SessionFault → HearFault → Type 0
IsRefusedLine meant HearFault.NoMemory = ⊤
IsRefusedLine meant (HearFault.Refused p) = meant ≡ Err (problem_view p)

-- what the line comes to: it prints this text, and the session behind it holds P; or it is refused so
abbrev pub Hears : Result Heard SessionFault → (session.Session → Type 0) → Result (String Global) HearFault → Type 0
Hears meant P (Ok text) = (h : Heard) × (meant ≡ Ok h) × (string_bytes text ≡ h.text) × P h.session
Hears meant P (Err e) = IsRefusedLine meant e
