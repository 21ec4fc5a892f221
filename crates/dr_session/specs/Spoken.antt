-- What was heard of an input.
use Rattle.std.specs.Prelude.{◌≡◌, ℕ, ◌+◌, List, ◌++◌, length, Option, Some, None, ⊤}
use Rattle.dr_meaning.specs.Schema.{Schema}
use Rattle.dr_meaning.specs.Lines.{lines_of}
use Rattle.dr_input.specs.Taken.{EndsLine}
use Rattle.dr_sub_meaning.specs.Session.{Session, Spoken, new_session, spoken_from}
use Rattle.dr_outside.specs.Sink.{SinkShown, AddedWhole}
use Rattle.dr_session.specs.Held.{IsSession}
use Rattle.dr_session.specs.declared.kept.Kept.{Kept}

-- what lines print, behind a text that was printed before
abbrev pub behind : List ℕ → Spoken → Spoken
behind text t = record { text = text ++ t.text; refusal = t.refusal }

-- of these lines, the first of which has this number, none is refused; they print this text, and leave session v to any lines behind them
abbrev pub Speaks : Schema → Session → ℕ → List (List ℕ) → List ℕ → Session → Type 0
Speaks s w number ls text v = (ms : List (List ℕ)) → spoken_from s w number (ls ++ ms) ≡ behind text (spoken_from s v (number + length ls) ms)

-- the whole lines that were read of what was left, so many, print this text and leave session v; nothing is said of a source that doesn't tell
abbrev pub HasSpoken : Schema → Session → ℕ → List ℕ → Session → Option (List ℕ) → Option (List ℕ) → Type 0
HasSpoken s w count text v None now = ⊤
HasSpoken s w count text v (Some all) None = ⊥
HasSpoken s w count text v (Some all) (Some rest) =
    (read : List ℕ) × (all ≡ read ++ rest) × EndsLine read rest × (length (lines_of read) ≡ count) × Speaks s w 1 (lines_of read) text v

-- so many lines of what was left were heard: the session holds what they come to, and out gained their text wholly
pub record HasTalked (s : Schema) (count : ℕ) (k : Kept) (tablets : List (List ℕ)) (left left_now : Option (List ℕ)) (out out_now : SinkShown) : Type 0 where
  pub session : Session
  pub text : List ℕ
  pub holds : IsSession s session k tablets
  pub spoken : HasSpoken s new_session count text session left left_now
  pub writes : AddedWhole out out_now text
  pub calm : out_now.faults ≡ out.faults
