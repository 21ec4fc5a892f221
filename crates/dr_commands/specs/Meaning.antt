-- What a command means: from what it may look at to its outcome.
use Rattle.std.specs.Prelude.{ℕ, Bool, List, [], Option, Some, None, Result, Ok, Err, ⊤}
use Rattle.dr_meaning.specs.Refusals.{CommandRefusal}
use Rattle.dr_formats.specs.Loading.{Put}
use Rattle.dr_reading.specs.Scan.{Scan}
use Rattle.dr_commands.specs.Refusals.{Refusal, schema_refused, table_refused, field_refused, words_refused, query_refused, line_refused, session_refused, refusal_of}

-- what a command may look at: the file that it reads through the keeper, and the input
pub record Look : Type 0 where
  pub file : List ℕ
  pub input : List ℕ

-- how a command goes on, where nothing outside fails
pub data Outcome : Type 0 where
  -- the text that it prints, and the files that it puts, in order
  done : List ℕ → List Put → Outcome
  -- its first refusal, and the files that it puts before that
  refused : Refusal → List Put → Outcome
  -- a scan of a table by the first link: its text, or the tablets that are left
  scans : Scan → Outcome
  -- a query served over a table by the first so many links: its text; or the tablets that are left and, where the others are this share of all, in
  -- hundredths, the text of those
  serves : (s : Scan) (workers : ℕ) (least : ℕ) → Outcome
  -- a look at the schema of the Parquet file at this path, by the first link: its text, or the cause for which there is none
  looks_at : List ℕ → Outcome
  -- what it prints of the lines before its first refusal, and that
  stops : List ℕ → Refusal → Outcome

-- a command that puts no file: its text, or its first refusal
abbrev pub plain : Result (List ℕ) CommandRefusal → Outcome
plain (Ok text) = done text []
plain (Err r) = refused (refusal_of r) []

-- the files that it puts
abbrev pub puts_in : Outcome → List Put
puts_in (done text puts) = puts
puts_in (refused r puts) = puts
puts_in (scans s) = []
puts_in (serves s workers least) = []
puts_in (looks_at path) = []
puts_in (stops text r) = []

-- its first refusal, if something is refused
abbrev pub first_refusal : Outcome → Option Refusal
first_refusal (done text puts) = None
first_refusal (refused r puts) = Some r
first_refusal (scans s) = None
first_refusal (serves s workers least) = None
first_refusal (looks_at path) = None
first_refusal (stops text r) = Some r

-- what it prints before its first refusal
abbrev pub text_before : Outcome → List ℕ
text_before (done text puts) = []
text_before (refused r puts) = []
text_before (scans s) = []
text_before (serves s workers least) = []
text_before (looks_at path) = []
text_before (stops text r) = text

-- what the words of a command mean
pub record Meaning : Type 0 where
  -- the path of the file that it reads through the keeper, if it reads one
  pub file : Option (List ℕ)
  -- whether it reads the input, and whether it puts files
  pub reads_input : Bool
  pub puts_files : Bool
  -- how many links it may ask, from the first on
  pub links : ℕ
  -- whether it talks: what it prints of a line of the input is written before it reads on
  pub talks : Bool
  pub outcome : Look → Outcome

-- a refusal that is found before the input is read: all but those of its lines
abbrev pub IsEarly : Refusal → Type 0
IsEarly (schema_refused e) = ⊤
IsEarly (table_refused e) = ⊤
IsEarly (field_refused n e) = ⊤
IsEarly (words_refused e) = ⊤
IsEarly (query_refused e) = ⊤
IsEarly (line_refused e) = ⊥
IsEarly (session_refused e) = ⊥
