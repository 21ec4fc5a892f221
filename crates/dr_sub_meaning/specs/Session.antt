-- A session: lines that keep a record, publish the records kept, or ask a query of all that are published; what each prints, and the first that is
-- refused.
use Rattle.std.specs.Prelude.{ℕ, suc, List, [], ◌∷◌, ◌++◌, length, take, ◌==◌, nat_lt, if◌then◌else◌, bytes_eq, codes, decimal, Option, Some, None, Result, Ok, Err}
use Rattle.std.specs.List.{flat_map}
use Rattle.std.specs.Str.Lossy.{utf8_valid_len}
use Rattle.dr_meaning.specs.Schema.{Schema}
use Rattle.dr_meaning.specs.Record.{Node}
use Rattle.dr_meaning.specs.JsonRecord.{RecordFault, record_of_line}
use Rattle.dr_meaning.specs.Refusals.{QueryRefusal, text_refused, binding_refused, record_fault_name, query_problem_name, nested_problem_name}
use Rattle.dr_meaning.specs.Lines.{lines_of, longest_line}
use Rattle.dr_sub_meaning.specs.Nested.{NestedQuery}
use Rattle.dr_sub_meaning.specs.NestedAsk.{read_nested, nested_answer_text}

-- ---- limits

abbrev pub most_lines : ℕ
most_lines = 10000000000

-- records that are published together
abbrev pub most_kept : ℕ
most_kept = 1000000

abbrev pub most_published : ℕ
most_published = 4096

-- ---- why a line is refused

pub data SessionFault : Type 0 where
  -- it has more than 1,048,576 bytes
  line_too_long : SessionFault
  -- it is past the greatest number of lines
  too_many_lines : SessionFault
  -- it is past the greatest number of records that are published together
  too_many_records : SessionFault
  no_record : RecordFault → SessionFault
  -- as many tablets are published as there may be
  full : SessionFault
  -- the byte place counts behind the question mark
  query_refused : QueryRefusal → SessionFault
  -- it begins with no sign of a session
  no_command : SessionFault

-- the first refused line, counted from 1
pub record SessionRefusal : Type 0 where
  pub line : ℕ
  pub fault : SessionFault

-- ---- one line

-- the records kept since the last publish, and those of each publish, in order
pub record Session : Type 0 where
  pub kept : List Node
  pub published : List (List Node)

abbrev pub new_session : Session
new_session = record { kept = []; published = [] }

-- what a line comes to: the session behind it, and what it prints
pub record Heard : Type 0 where
  pub session : Session
  pub text : List ℕ

-- `+RECORD` keeps a record
abbrev pub kept_behind : Session → Result Node RecordFault → Result Heard SessionFault
kept_behind w (Ok n) = Ok (record { session = record { kept = w.kept ++ n ∷ []; published = w.published }; text = [] })
kept_behind w (Err e) = Err (no_record e)

abbrev pub keeps : Schema → Session → List ℕ → Result Heard SessionFault
keeps s w line = if nat_lt (length w.kept) most_kept then kept_behind w (record_of_line s.fields line) else Err too_many_records

-- `.` publishes those that are kept
abbrev pub published_text : ℕ → List ℕ
published_text k = codes "published " ++ (decimal k ++ 10 ∷ [])

abbrev pub publishes : Session → Result Heard SessionFault
publishes w = if nat_lt (length w.published) most_published
    then Ok (record { session = record { kept = []; published = w.published ++ w.kept ∷ [] }; text = published_text (suc (length w.published)) })
    else Err full

-- `?QUERY` asks all that are published
abbrev pub at_text : ℕ → List ℕ
at_text k = codes "at " ++ (decimal k ++ 10 ∷ [])

-- a byte that isn't UTF-8 is a bad token: the text up to it, and a byte that is no token in its place
abbrev pub asked_text : List ℕ → List ℕ
asked_text line = if utf8_valid_len line == length line then line else take (utf8_valid_len line) line ++ 1 ∷ []

abbrev pub answers : Schema → Session → Result NestedQuery QueryRefusal → Result Heard SessionFault
answers s w (Ok n) = Ok (record { session = w; text = nested_answer_text s n (flat_map (λ (R : List Node). R) w.published) ++ at_text (length w.published) })
answers s w (Err e) = Err (query_refused e)

-- by the line's first byte: + 43, ? 63, . 46
abbrev pub commanded : Schema → Session → List ℕ → Result Heard SessionFault
commanded s w [] = Err no_command
commanded s w (b ∷ line) =
    if b == 43 then keeps s w line
    else (if b == 63 then answers s w (read_nested s (asked_text line))
    else (if bytes_eq (b ∷ line) (46 ∷ []) then publishes w else Err no_command))

-- the line of this number
abbrev pub heard : Schema → Session → ℕ → List ℕ → Result Heard SessionFault
heard s w number line =
    if nat_lt longest_line (length line) then Err line_too_long
    else (if nat_lt most_lines number then Err too_many_lines
    else commanded s w line)

-- ---- all lines

-- what the lines before the first that is refused print, and that refusal
pub record Spoken : Type 0 where
  pub text : List ℕ
  pub refusal : Option SessionRefusal

abbrev pub spoken_behind : ℕ → Result Heard SessionFault → (Session → Spoken) → Spoken
spoken_behind number (Ok h) rest = record { text = h.text ++ (rest h.session).text; refusal = (rest h.session).refusal }
spoken_behind number (Err e) rest = record { text = []; refusal = Some (record { line = number; fault = e }) }

-- of lines, the first of which has this number
abbrev pub spoken_from : Schema → Session → ℕ → List (List ℕ) → Spoken
spoken_from s w number [] = record { text = []; refusal = None }
spoken_from s w number (l ∷ ls) = spoken_behind number (heard s w number l) (λ v. spoken_from s v (suc number) ls)

-- what a session prints of an input
unfoldable pub spoken : Schema → List ℕ → Spoken
spoken s input = spoken_from s new_session 1 (lines_of input)

-- ---- the line that names a refusal

abbrev pub query_fault_name : QueryRefusal → List ℕ
query_fault_name (text_refused e) = codes "query at " ++ (decimal e.place ++ (codes ": " ++ query_problem_name e.problem))
query_fault_name (binding_refused e) = codes "query at " ++ (decimal e.place ++ (codes ": " ++ nested_problem_name e.problem))

abbrev pub session_fault_name : SessionFault → List ℕ
session_fault_name line_too_long = codes "LineTooLong"
session_fault_name too_many_lines = codes "TooManyLines"
session_fault_name too_many_records = codes "TooManyRecords"
session_fault_name (no_record e) = record_fault_name e
session_fault_name full = codes "Full"
session_fault_name (query_refused e) = query_fault_name e
session_fault_name no_command = codes "Command"

abbrev pub session_refusal_text : SessionRefusal → List ℕ
session_refusal_text e = codes "refused line " ++ (decimal e.line ++ (codes ": " ++ (session_fault_name e.fault ++ 10 ∷ [])))
