-- What a line comes to, whatever session is held.
use Rattle.std.specs.Prelude.{ℕ, List, Result, String}
use Rattle.std.specs.declared.alloc.Global.{Global}
use Rattle.dr_meaning.specs.Schema.{Schema}
use Rattle.dr_sub_meaning.specs.Session.{Session, SessionFault, Heard}
use Rattle.dr_outside.specs.Sink.{SinkShown}
use Rattle.dr_session.specs.Faults.{Hears}
use Rattle.dr_session.specs.Held.{IsSession}
use Rattle.dr_session.specs.Saying.{Says}
use Rattle.dr_session.specs.declared.fault.HearFault.{HearFault}
use Rattle.dr_session.specs.declared.kept.Kept.{Kept}
use Rattle.dr_session.specs.declared.talking.TalkFault.{TalkFault}

-- it prints what it means for the session that is held, and the session behind it is held then; or it is refused so
abbrev pub HearsFrom : Schema → (Session → Result Heard SessionFault) → Kept → List (List ℕ) → Kept → List (List ℕ) → Result (String Global) HearFault → Type 0
HearsFrom s means k tablets k' tablets' result = (w : Session) → IsSession s w k tablets → Hears (means w) (λ v. IsSession s v k' tablets') result

-- its text is written so, and the session behind it is held then; or it stops the session
abbrev pub SaysFrom : Schema → ℕ → (Session → Result Heard SessionFault) → Kept → List (List ℕ) → Kept → List (List ℕ) → SinkShown → SinkShown → Result (Unit {0}) TalkFault → Type 0
SaysFrom s number means k tablets k' tablets' before after result =
    (w : Session) → IsSession s w k tablets → Says (means w) (λ v. IsSession s v k' tablets') number before after result
