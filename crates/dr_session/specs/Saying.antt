-- How a line's text is written.
use Rattle.std.specs.Prelude.{◌≡◌, ℕ, List, ◌∷◌, Option, Result, Ok, Err}
use Rattle.dr_meaning.specs.Schema.{Schema}
use Rattle.dr_meaning.specs.Lines.{lines_of}
use Rattle.dr_lines.specs.Cutting.{BeginsLine}
use Rattle.dr_lines.specs.declared.cutter.LineFault.{LineFault as CutFault}
use Rattle.dr_outside.specs.Source.{SourceShown}
use Rattle.dr_input.specs.Taken.{WhereTold}
use Rattle.dr_outside.specs.Faults.{raised}
use Rattle.dr_outside.specs.Sink.{SinkShown, AddedWhole, AddedFront}
use Rattle.dr_sub_meaning.specs.Session as session
use Rattle.dr_sub_meaning.specs.Session.{SessionFault, Heard, heard}
use Rattle.dr_session.specs.Faults.{problem_view}
use Rattle.dr_session.specs.declared.fault.SessionProblem.{SessionProblem}
use Rattle.dr_session.specs.declared.talking.TalkFault.{TalkFault}

-- the line of this number stops the session: memory was wanting, and nothing is written; the sink failed, and took a front of the line's text; the line is refused, and nothing is written
abbrev pub StopsAt : Result Heard SessionFault → ℕ → SinkShown → SinkShown → TalkFault → Type 0
StopsAt meant number before after TalkFault.NoMemory = after ≡ before
StopsAt meant number before after TalkFault.Source = ⊥
StopsAt meant number before after TalkFault.Out = (h : Heard) × (meant ≡ Ok h) × AddedFront before after h.text × (after.faults ≡ raised before.faults)
StopsAt meant number before after (TalkFault.Refused n p) = (n ≡ number) × (meant ≡ Err (problem_view p)) × (after ≡ before)

-- the line's text was written wholly, and the session behind it holds P; or it stops the session
abbrev pub Says : Result Heard SessionFault → (session.Session → Type 0) → ℕ → SinkShown → SinkShown → Result (Unit {0}) TalkFault → Type 0
Says meant P number before after (Ok done) = (h : Heard) × (meant ≡ Ok h) × AddedWhole before after h.text × (after.faults ≡ before.faults) × P h.session
Says meant P number before after (Err e) = StopsAt meant number before after e

-- the first line of what was left is refused, so, whatever the session before it
abbrev pub RefusesFirst : ℕ → Option (List ℕ) → SessionFault → Type 0
RefusesFirst number left f =
    WhereTold left (λ all. (l : List ℕ) × (ms : List (List ℕ)) × (lines_of all ≡ l ∷ ms) × ((s : Schema) (w : session.Session) → heard s w number l ≡ Err f))

-- why the line of this number isn't cut: the source failed, and gave no whole line; or the line is refused, for its length or its number
abbrev pub CutStops : ℕ → Option (List ℕ) → SourceShown → SourceShown → TalkFault → Type 0
CutStops number left before now TalkFault.NoMemory = ⊥
CutStops number left before now TalkFault.Source = (now.faults ≡ raised before.faults) × BeginsLine left now.left
CutStops number left before now TalkFault.Out = ⊥
CutStops number left before now (TalkFault.Refused n p) = (n ≡ number) × (now.faults ≡ before.faults) × RefusesFirst number left (problem_view p)

-- the fault of a line that isn't there
abbrev pub cut_fault_in : CutFault → ℕ → TalkFault
cut_fault_in CutFault.ReadFault number = TalkFault.Source
cut_fault_in CutFault.TooLong number = TalkFault.Refused number SessionProblem.TooLong
