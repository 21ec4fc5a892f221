-- What a session over an input comes to: how it ends, and what it has written then.
use Rattle.std.specs.Prelude.{◌≡◌, ℕ, List, [], ◌++◌, Option, Some, None, ⊤, ◌⊎◌}
use Rattle.dr_meaning.specs.Schema.{Schema}
use Rattle.dr_sub_meaning.specs.Session.{SessionRefusal, spoken}
use Rattle.dr_outside.specs.Faults.{raised}
use Rattle.dr_outside.specs.Source.{SourceShown}
use Rattle.dr_outside.specs.Sink.{SinkShown, AddedWhole, AddedFront}
use Rattle.dr_input.specs.Whole.{whole_lines}
use Rattle.dr_input.specs.Taken.{WhereTold, EndsLine}
use Rattle.dr_session.specs.Faults.{problem_view}
use Rattle.dr_session.specs.declared.talking.TalkFault.{TalkFault}

-- ---- texts of an input

-- none of the lines of these bytes is refused, and they print this text
abbrev pub Prints : Schema → List ℕ → List ℕ → Type 0
Prints s text bytes = spoken s bytes ≡ record { text = text; refusal = None }

-- this is the first refused line of these bytes, and the lines before it print this text
abbrev pub PrintsBefore : Schema → SessionRefusal → List ℕ → List ℕ → Type 0
PrintsBefore s r text bytes = spoken s bytes ≡ record { text = text; refusal = Some r }

-- P holds of what was read of what was left, and of what is left now; nothing is said of a source that doesn't tell
abbrev pub WhereRead : Option (List ℕ) → Option (List ℕ) → (List ℕ → List ℕ → Type 0) → Type 0
WhereRead None now P = ⊤
WhereRead (Some all) None P = ⊥
WhereRead (Some all) (Some rest) P = (read : List ℕ) × (all ≡ read ++ rest) × P read rest

-- the text of the whole lines that the source gave; or that of all lines, where nothing is left: a source may tell its end behind a last line without
-- LF, and fail at the next read
abbrev pub PrintsGiven : Schema → List ℕ → Option (List ℕ) → Option (List ℕ) → Type 0
PrintsGiven s text before now = WhereRead before now (λ read rest. Prints s text (whole_lines read) ⊎ ((rest ≡ []) × Prints s text read))

-- the text of the first lines that the source gave; whole ones, or all of them where nothing is left
abbrev pub PrintsFront : Schema → List ℕ → Option (List ℕ) → Option (List ℕ) → Type 0
PrintsFront s text before now =
    WhereRead before now (λ read rest. (front : List ℕ) × (more : List ℕ) × (read ≡ front ++ more) × EndsLine front (more ++ rest) × Prints s text front)

-- ---- how it ends

-- the input was read to its end and no line is refused: the text of all lines was written wholly
pub record TalksToEnd (s : Schema) (input input_now : SourceShown) (out out_now : SinkShown) : Type 0 where
  pub text : List ℕ
  pub prints : WhereTold input.left (Prints s text)
  pub at_end : WhereTold input.left (λ _. input_now.left ≡ Some [])
  pub writes : AddedWhole out out_now text
  pub input_calm : input_now.faults ≡ input.faults
  pub out_calm : out_now.faults ≡ out.faults

-- this line is the first that is refused: the text of the lines before it was written wholly
pub record IsRefused (s : Schema) (r : SessionRefusal) (input input_now : SourceShown) (out out_now : SinkShown) : Type 0 where
  pub text : List ℕ
  pub prints : WhereTold input.left (PrintsBefore s r text)
  pub writes : AddedWhole out out_now text
  pub input_calm : input_now.faults ≡ input.faults
  pub out_calm : out_now.faults ≡ out.faults

-- the source failed: the text of all that it gave was written wholly
pub record IsUnread (s : Schema) (input input_now : SourceShown) (out out_now : SinkShown) : Type 0 where
  pub text : List ℕ
  pub prints : PrintsGiven s text input.left input_now.left
  pub writes : AddedWhole out out_now text
  pub input_failed : input_now.faults ≡ raised input.faults
  pub out_calm : out_now.faults ≡ out.faults

-- the sink failed: it took a front of the text of some first lines
pub record IsUnwritten (s : Schema) (input input_now : SourceShown) (out out_now : SinkShown) : Type 0 where
  pub text : List ℕ
  pub prints : PrintsFront s text input.left input_now.left
  pub writes : AddedFront out out_now text
  pub input_calm : input_now.faults ≡ input.faults
  pub out_failed : out_now.faults ≡ raised out.faults

-- memory was wanting: the text of some first lines was written wholly
pub record IsWanting (s : Schema) (input input_now : SourceShown) (out out_now : SinkShown) : Type 0 where
  pub text : List ℕ
  pub prints : PrintsFront s text input.left input_now.left
  pub writes : AddedWhole out out_now text
  pub input_calm : input_now.faults ≡ input.faults
  pub out_calm : out_now.faults ≡ out.faults

-- why it stops before the input's end
abbrev pub TalkStops : Schema → SourceShown → SourceShown → SinkShown → SinkShown → TalkFault → Type 0
TalkStops s input input_now out out_now TalkFault.NoMemory = IsWanting s input input_now out out_now
TalkStops s input input_now out out_now TalkFault.Source = IsUnread s input input_now out out_now
TalkStops s input input_now out out_now TalkFault.Out = IsUnwritten s input input_now out out_now
TalkStops s input input_now out out_now (TalkFault.Refused n p) = IsRefused s (record { line = n; fault = problem_view p }) input input_now out out_now
