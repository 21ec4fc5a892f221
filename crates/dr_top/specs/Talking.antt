-- What a command that talks has written of what the source gave: it writes each line's text before it reads on.
use Rattle.std.specs.Prelude.{◌≡◌, true, false, ℕ, List, [], ◌++◌, ◌⊎◌, Option, Some, None}
use Rattle.dr_outside.specs.Source.{SourceShown}
use Rattle.dr_outside.specs.Sink.{SinkShown, AddedWhole}
use Rattle.dr_input.specs.Whole.{whole_lines}
use Rattle.dr_input.specs.Taken.{EndsLine}
use Rattle.dr_session.specs.Talking.{WhereRead}
use Rattle.dr_commands.specs.Refusals.{Refusal}
use Rattle.dr_commands.specs.Meaning.{Meaning, Outcome, done, IsEarly}
use Rattle.dr_top.specs.World.{World, IsFileOf, outcome_on}

-- ---- the text of what was read, by the outcome on each input

-- of the whole lines that the source gave; or of all lines, where nothing is left: a source may tell its end behind a last line without LF, and fail at
-- the next read
abbrev pub PrintsGiven : (List ℕ → Outcome) → List ℕ → SourceShown → SourceShown → Type 0
PrintsGiven on text input input_now =
    WhereRead input.left input_now.left (λ read rest. (on (whole_lines read) ≡ done text []) ⊎ ((rest ≡ []) × (on read ≡ done text [])))

-- of the first lines that the source gave; whole ones, or all of them where nothing is left
abbrev pub PrintsFront : (List ℕ → Outcome) → List ℕ → SourceShown → SourceShown → Type 0
PrintsFront on text input input_now =
    WhereRead input.left input_now.left
    (λ read rest. (front : List ℕ) × (more : List ℕ) × (read ≡ front ++ more) × EndsLine front (more ++ rest) × (on front ≡ done text []))

-- the command talks, and this is the text of the first lines that the source gave
pub record SpeaksFront (m : Meaning) (before after : World) (text : List ℕ) : Type 0 where
  pub talks : m.talks ≡ true
  -- the file that it read
  pub file : List ℕ
  pub is_file : IsFileOf m before.keeper file
  pub prints : PrintsFront (outcome_on m file) text before.input after.input

-- ---- what out gained

-- before this was refused: the text that is printed before it; that is nothing, and out stays, but where the command talks and a line of the input is
-- refused
pub record WritesBefore (m : Meaning) (r : Refusal) (text : List ℕ) (out out_now : SinkShown) : Type 0 where
  pub written : AddedWhole out out_now text
  pub silent : m.talks ≡ false → out_now ≡ out
  pub early : IsEarly r → out_now ≡ out

-- where the source failed: nothing; of a command that talks, the text of the lines that it gave, by the file that was read
pub record WritesGiven (m : Meaning) (file : List ℕ) (before after : World) : Type 0 where
  pub silent : m.talks ≡ false → after.out ≡ before.out
  pub lines : m.talks ≡ true → (text : List ℕ) × AddedWhole before.out after.out text × PrintsGiven (outcome_on m file) text before.input after.input

-- where memory ran out: nothing; of a command that talks maybe the text of the first lines that the source gave
abbrev pub WritesWanting : Option Meaning → World → World → Type 0
WritesWanting None before after = after.out ≡ before.out
WritesWanting (Some m) before after =
    (after.out ≡ before.out) ⊎ ((text : List ℕ) × SpeaksFront m before after text × AddedWhole before.out after.out text)
