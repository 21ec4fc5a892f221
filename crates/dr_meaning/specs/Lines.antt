-- Input lines: how an input is cut into lines, and the records of its lines or the first refusal.
use Rattle.std.specs.Prelude.{◌≡◌, ℕ, suc, List, [], ◌∷◌, length, ◌==◌, nat_lt, if◌then◌else◌, Option, Some, None, Result, Ok, Err}
use Rattle.dr_meaning.specs.Schema.{Fields}
use Rattle.dr_meaning.specs.Record.{Node}
use Rattle.dr_meaning.specs.JsonRecord.{RecordFault, record_of_line}
use Rattle.dr_meaning.specs.Lists.{onto_first}

-- the lines of an input, without their LF; the last may lack it, and an empty rest after the last LF is no line
abbrev pub lines_of : List ℕ → List (List ℕ)
lines_of [] = []
lines_of (b ∷ bs) = if b == 10 then [] ∷ lines_of bs else onto_first b (lines_of bs)

-- a line's greatest length
abbrev pub longest_line : ℕ
longest_line = 1048576

-- why a line is refused
pub data LineFault : Type 0 where
  -- it has more than 1,048,576 bytes
  line_too_long : LineFault
  -- it is past the greatest number of lines
  too_many_records : LineFault
  -- it is no record
  no_record : RecordFault → LineFault

-- the first refused line, counted from 1
pub record Refusal : Type 0 where
  pub line : ℕ
  pub fault : LineFault

abbrev pub line_record : Result Node RecordFault → Result Node LineFault
line_record (Ok n) = Ok n
line_record (Err e) = Err (no_record e)

-- the record of the line of this number, where at most so many are taken
abbrev pub record_at : Fields → ℕ → ℕ → List ℕ → Result Node LineFault
record_at fs most number line =
    if nat_lt longest_line (length line) then Err line_too_long
    else (if nat_lt most number then Err too_many_records
    else line_record (record_of_line fs line))

abbrev pub before_records : Node → Result (List Node) Refusal → Result (List Node) Refusal
before_records n (Ok ns) = Ok (n ∷ ns)
before_records n (Err e) = Err e

abbrev pub or_refusal : ℕ → Result Node LineFault → Result (List Node) Refusal → Result (List Node) Refusal
or_refusal number (Ok n) rest = before_records n rest
or_refusal number (Err e) rest = Err (record { line = number; fault = e })

-- the records of lines, the first of which has this number, or the first refusal
abbrev pub records_from : Fields → ℕ → ℕ → List (List ℕ) → Result (List Node) Refusal
records_from fs most number [] = Ok []
records_from fs most number (l ∷ ls) = or_refusal number (record_at fs most number l) (records_from fs most (suc number) ls)

-- the records of an input of at most so many lines, or the first refusal
unfoldable pub records_of : Fields → ℕ → List ℕ → Result (List Node) Refusal
records_of fs most input = records_from fs most 1 (lines_of input)

-- ---- the records before a refusal

-- the records of the lines before the first that is refused, and that refusal
pub record Taken : Type 0 where
  pub records : List Node
  pub refusal : Option Refusal

-- a line before the lines behind it
abbrev pub or_stop : ℕ → Result Node LineFault → Taken → Taken
or_stop number (Ok n) rest = record { records = n ∷ rest.records; refusal = rest.refusal }
or_stop number (Err e) rest = record { records = []; refusal = Some (record { line = number; fault = e }) }

-- of lines, the first of which has this number, where at most so many are taken
abbrev pub taken_from : Fields → ℕ → ℕ → List (List ℕ) → Taken
taken_from fs most number [] = record { records = []; refusal = None }
taken_from fs most number (l ∷ ls) = or_stop number (record_at fs most number l) (taken_from fs most (suc number) ls)

-- ---- laws

abbrev pub result_of : List Node → Option Refusal → Result (List Node) Refusal
result_of R None = Ok R
result_of R (Some e) = Err e

-- the records taken and the refusal are those of the input's lines
abbrev pub TakenAreRecords : Type 0
TakenAreRecords = (fs : Fields) (most number : ℕ) (ls : List (List ℕ))
    → result_of (taken_from fs most number ls).records (taken_from fs most number ls).refusal ≡ records_from fs most number ls
