-- What the program meets outside, at one moment, and what a command means on it.
use Rattle.std.specs.Prelude.{◌≡◌, ℕ, Bool, true, false, List, [], ◌∷◌, Option, Some, None, ⊤}
use Rattle.dr_outside.specs.Source.{SourceShown}
use Rattle.dr_outside.specs.Sink.{SinkShown}
use Rattle.dr_outside.specs.Link.{LinkShown, Files}
use Rattle.dr_reading.specs.Held.{Held, untold, absent, present, held_at}
use Rattle.dr_commands.specs.Refusals.{Refusal}
use Rattle.dr_input.specs.Whole.{whole_lines}
use Rattle.dr_input.specs.Taken.{WhereGiven, WhereTold}
use Rattle.dr_commands.specs.Meaning.{Meaning, Outcome, refused, first_refusal, IsEarly}

-- what each thing outside shows at one moment
pub record World : Type 0 where
  pub input : SourceShown
  pub out : SinkShown
  pub err : SinkShown
  pub keeper : LinkShown
  pub links : List LinkShown

abbrev pub world : SourceShown → SinkShown → SinkShown → LinkShown → List LinkShown → World
world input out err keeper links = record { input = input; out = out; err = err; keeper = keeper; links = links }

-- what a command is lent of that
pub record Lent : Type 0 where
  pub input : SourceShown
  pub keeper : LinkShown
  pub links : List LinkShown

abbrev pub lent : SourceShown → LinkShown → List LinkShown → Lent
lent input keeper links = record { input = input; keeper = keeper; links = links }

abbrev pub lent_in : World → Lent
lent_in w = lent w.input w.keeper w.links

-- ---- what is told

-- what is told of the file that is read at a path; where none is read, it has no bytes
abbrev pub told_file : Option (List ℕ) → Option Files → Held
told_file None held = present []
told_file (Some path) held = held_at held path

-- what the keeper tells of the file that a command names
abbrev pub file_of : Meaning → LinkShown → Held
file_of m keeper = told_file m.file keeper.held

-- a file has these bytes, where they are told: where none are there it has none, and where nothing is told any may be its bytes
abbrev pub IsTold : Held → List ℕ → Type 0
IsTold untold file = ⊤
IsTold absent file = ⊥
IsTold (present bytes) file = bytes ≡ file

-- the bytes that a command reads of the file that it names: those that the keeper tells; where the keeper tells nothing, some bytes; where the
-- command names no file, none
abbrev pub IsFileOf : Meaning → LinkShown → List ℕ → Type 0
IsFileOf m keeper file = IsTold (file_of m keeper) file

-- where the input is told, P holds of it; where it isn't read, of no bytes
abbrev pub ForInput : Bool → Option (List ℕ) → (List ℕ → Type 0) → Type 0
ForInput false left P = P []
ForInput true left P = WhereTold left P

-- ---- what a command comes to

-- the outcome on this file and this input
abbrev pub outcome_on : Meaning → List ℕ → List ℕ → Outcome
outcome_on m file input = m.outcome (record { file = file; input = input })

-- whatever the input, nothing that comes before it is refused
abbrev pub Opens : (List ℕ → Outcome) → Type 0
Opens on = (input : List ℕ) (r : Refusal) → IsEarly r → first_refusal (on input) ≡ Some r → ⊥

-- whatever the input, this is refused, and nothing is put
abbrev pub RefusesAlways : (List ℕ → Outcome) → Refusal → Type 0
RefusesAlways on r = (input : List ℕ) → on input ≡ refused r []

-- of the whole lines alone that the source gave of the input, nothing is refused
abbrev pub Accepts : (List ℕ → Outcome) → SourceShown → SourceShown → Type 0
Accepts on input input_now = WhereGiven input.left input_now.left (λ read. first_refusal (on (whole_lines read)) ≡ None)

-- nothing that comes before an input that is read is refused; nothing is said where none is
abbrev pub OpensBy : Bool → (List ℕ → Outcome) → Type 0
OpensBy false on = ⊤
OpensBy true on = Opens on

-- ---- links

-- P holds of the first link, before and after
abbrev pub WithFirsts : List LinkShown → List LinkShown → (LinkShown → LinkShown → Type 0) → Type 0
WithFirsts [] [] P = ⊤
WithFirsts [] (l ∷ ls) P = ⊥
WithFirsts (l ∷ ls) [] P = ⊥
WithFirsts (l ∷ ls) (k ∷ ks) P = P l k

-- P holds of each link, before and after
abbrev pub WithEach : List LinkShown → List LinkShown → (LinkShown → LinkShown → Type 0) → Type 0
WithEach [] [] P = ⊤
WithEach (l ∷ ls) (k ∷ ks) P = P l k × WithEach ls ks P
WithEach ls ks P = ⊥
