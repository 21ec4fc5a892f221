-- What a line of a record comes to, and the file of those that are kept.
use Rattle.std.specs.Prelude.{◌≡◌, true, List, [], ◌∷◌, ◌++◌, Result, Ok, Err, nat_lt, length, if◌then◌else◌}
use Rattle.dr_meaning.specs.Schema.{Schema, Fields}
use Rattle.dr_meaning.specs.Path.{Step}
use Rattle.dr_meaning.specs.Column.{Triplet, record_column}
use Rattle.dr_striper.specs.Striping.{gained}
use Rattle.dr_meaning.specs.Record.{Node, is_record}
use Rattle.dr_meaning.specs.JsonRecord.{RecordFault}
use Rattle.dr_sub_meaning.specs.Session.{SessionFault, most_kept, too_many_records, no_record}
use Rattle.dr_session.specs.Faults.{problem_view}
use Rattle.dr_session.specs.Held.{IsKept}
use Rattle.dr_session.specs.declared.fault.HearFault.{HearFault}
use Rattle.dr_session.specs.declared.kept.Kept.{Kept}

-- the record that a line keeps behind so many, or why it keeps none
abbrev pub wrapped : Result Node RecordFault → Result Node SessionFault
wrapped (Ok n) = Ok n
wrapped (Err e) = Err (no_record e)

abbrev pub kept_record : List Node → Result Node RecordFault → Result Node SessionFault
kept_record R read = if nat_lt (length R) most_kept then wrapped read else Err too_many_records

abbrev pub IsRefusedRecord : Result Node SessionFault → HearFault → Type 0
IsRefusedRecord meant HearFault.NoMemory = Unit {0}
IsRefusedRecord meant (HearFault.Refused p) = meant ≡ Err (problem_view p)

-- the record joined those that are kept; or the line is refused so
abbrev pub KeepsRecord : Schema → List Node → Result Node SessionFault → Kept → Result (Unit {0}) HearFault → Type 0
KeepsRecord s R meant k (Ok done) = (n : Node) × (meant ≡ Ok n) × IsKept s (R ++ n ∷ []) k
KeepsRecord s R meant k (Err e) = IsRefusedRecord meant e

-- the columns of these paths gained the record of a line; or the line is refused so
abbrev pub StripesRecord : Fields → Result Node RecordFault → List (List Step) → List (List Triplet) → List (List Triplet) → Result (Unit {0}) HearFault → Type 0
StripesRecord fs read paths before now (Ok done) = (n : Node) × (read ≡ Ok n) × (is_record fs n ≡ true) × (now ≡ gained (λ p. record_column p n) paths before)
StripesRecord fs read paths before now (Err e) = IsRefusedRecord (wrapped read) e
