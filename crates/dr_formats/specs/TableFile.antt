-- Table files: how many tablets a table has, how many copies of each, on which leaves they lie, and the schema.
use Rattle.std.specs.Prelude.{ℕ, zero, suc, ◌+◌, ◌*◌, ◌-◌, List, [], ◌∷◌, ◌++◌, length, Bool, false, not, ◌&&◌, ◌==◌, nat_le, nat_lt}
use Rattle.std.specs.Prelude.{if◌then◌else◌, bytes_eq, codes, Option, Some, None, option_map, option_and_then, Result, Ok, Err}
use Rattle.std.specs.List.{list_all}
use Rattle.std.specs.Str.{is_utf8}
use Rattle.std.specs.Fmt.{decimal}
use Rattle.dr_meaning.specs.Schema.{Schema}
use Rattle.dr_meaning.specs.SchemaText.{SchemaFault, parse_schema, schema_text}
use Rattle.dr_meaning.specs.Lists.{is_empty}
use Rattle.dr_meaning.specs.Tokens.{is_digit}
use Rattle.dr_formats.specs.Reading.{Reading, got, refused, Reader, give, ◌>>=◌}

-- a table: its schema, the directories of its leaves, copies of each tablet, number of tablets
pub record Table : Type 0 where
  pub schema : Schema
  pub leaves : List (List ℕ)
  pub copies : ℕ
  pub tablets : ℕ

-- what can be wrong with a text: more than 2,097,152 bytes; the first line, or no UTF-8; the second line; the third line, or more copies than leaves;
-- the nth leaf line, from 0, or the line `schema` in its place; the schema text behind, with its own place
pub data TableFault : Type 0 where
  table_too_long : TableFault
  bad_head : TableFault
  bad_tablets : TableFault
  bad_copies : TableFault
  bad_leaf : ℕ → TableFault
  bad_table_schema : SchemaFault → TableFault

-- ---- the limits

-- how many bytes a table file may have
abbrev pub longest_table : ℕ
longest_table = 2097152

-- how many tablets a table may have
abbrev pub most_tablets : ℕ
most_tablets = 4096

-- how many leaf lines, and so copies, there may be
abbrev pub most_leaf_lines : ℕ
most_leaf_lines = 64

-- ---- lines

-- the first line and what is behind its LF
pub record Line : Type 0 where
  pub text : List ℕ
  pub behind : List ℕ

-- one byte more before the line
abbrev pub with_byte : ℕ → Line → Line
with_byte b l = record { text = b ∷ l.text; behind = l.behind }

-- the first line of a text, if it is ended by LF
abbrev pub first_line : List ℕ → Option Line
first_line [] = None
first_line (b ∷ bs) = if b == 10 then Some (record { text = []; behind = bs }) else option_map (with_byte b) (first_line bs)

-- what is behind a word at the front
abbrev pub behind_word : List ℕ → List ℕ → Option (List ℕ)
behind_word [] t = Some t
behind_word (w ∷ ws) [] = None
behind_word (w ∷ ws) (b ∷ bs) = if w == b then behind_word ws bs else None

-- the number that digits write behind those of a number
abbrev pub digits_value : ℕ → List ℕ → ℕ
digits_value n [] = n
digits_value n (b ∷ bs) = digits_value (10 * n + (b - 48)) bs

-- whether the first digit is 0
abbrev pub begins_with_zero : List ℕ → Bool
begins_with_zero [] = false
begins_with_zero (b ∷ bs) = b == 48

-- whether a text isn't empty and has no LF
abbrev pub is_line_text : List ℕ → Bool
is_line_text d = not (is_empty d) && list_all (λ b. not (b == 10)) d

-- a number above 0 in decimal, without leading zeros
abbrev pub number_text : List ℕ → Option ℕ
number_text t = if not (is_empty t) && list_all is_digit t && not (begins_with_zero t) then Some (digits_value 0 t) else None

-- a number, if it isn't above the greatest
abbrev pub at_most : ℕ → ℕ → Option ℕ
at_most greatest n = if nat_le n greatest then Some n else None

-- the number behind a word, from 1 to the greatest
abbrev pub number_behind : List ℕ → ℕ → List ℕ → Option ℕ
number_behind word greatest t = option_and_then (at_most greatest) (option_and_then number_text (behind_word word t))

-- a text, unless it is empty
abbrev pub nonempty : List ℕ → Option (List ℕ)
nonempty [] = None
nonempty (b ∷ bs) = Some (b ∷ bs)

-- the directory of a line `leaf DIR`
abbrev pub leaf_line : List ℕ → Option (List ℕ)
leaf_line t = option_and_then nonempty (behind_word (codes "leaf ") t)

-- ---- forms of lines

-- what is found, or else a fault
abbrev pub found : {A : Type 0} → TableFault → Option A → Reader TableFault A
found e None bs = refused e []
found e (Some a) bs = got a bs

-- what the first line stands for, behind which reading goes on
abbrev pub line_read : {A : Type 0} → TableFault → (List ℕ → Option A) → Option Line → Reading TableFault A
line_read e f None = refused e []
line_read e f (Some l) = found e (f l.text) l.behind

-- a line that stands for something; one that doesn't, or isn't ended, has this fault
abbrev pub line_as : {A : Type 0} → TableFault → (List ℕ → Option A) → Reader TableFault A
line_as e f text = line_read e f (first_line text)

-- this text alone
abbrev pub exactly : List ℕ → List ℕ → Option (List ℕ)
exactly w t = if bytes_eq t w then Some t else None

-- behind n leaf lines: the directory of a further one, or none at the line `schema`, before which there is one at least
abbrev pub leaf_or_schema : ℕ → List ℕ → Option (Option (List ℕ))
leaf_or_schema n t = if bytes_eq t (codes "schema") && nat_lt 0 n then Some None else option_map Some (leaf_line t)

-- ---- the table of a text, or its first fault

-- a directory and those behind it, or none at the line `schema`
abbrev pub up_to_schema : Reader TableFault (List (List ℕ)) → Option (List ℕ) → Reader TableFault (List (List ℕ))
up_to_schema further None = give []
up_to_schema further (Some d) = do
  ds ← further
  give (d ∷ ds)

-- behind n leaf lines: the directories of the further ones, of which there are so many at most, and the line `schema`
abbrev pub leaf_lines : ℕ → ℕ → Reader TableFault (List (List ℕ))
leaf_lines zero n = do
  _ ← line_as (bad_leaf n) (exactly (codes "schema"))
  give []
leaf_lines (suc most) n = do
  d ← line_as (bad_leaf n) (leaf_or_schema n)
  up_to_schema (leaf_lines most (suc n)) d

-- a schema, or its text's fault
abbrev pub schema_or_fault : Result Schema SchemaFault → Reader TableFault Schema
schema_or_fault (Ok s) = give s
schema_or_fault (Err e) = refused (bad_table_schema e)

-- the schema that all the rest is the text of
abbrev pub schema_behind : Reader TableFault Schema
schema_behind text = schema_or_fault (parse_schema text) []

-- the lines of a table file, and the schema's text behind them; that there are fewer leaf lines than copies is the fault of the copies
abbrev pub table_lines : Reader TableFault Table
table_lines = do
  _ ← line_as bad_head (exactly (codes "dremel-table 1"))
  tablets ← line_as bad_tablets (number_behind (codes "tablets ") most_tablets)
  copies ← line_as bad_copies (number_behind (codes "copies ") most_leaf_lines)
  leaves ← leaf_lines most_leaf_lines 0
  _ ← found bad_copies (at_most (length leaves) copies)
  schema ← schema_behind
  give (record { schema = schema; leaves = leaves; copies = copies; tablets = tablets })

-- what was read, or the fault
abbrev pub outcome : Reading TableFault Table → Result Table TableFault
outcome (got t rest) = Ok t
outcome (refused e rest) = Err e

-- the table of a text, or its first fault
unfoldable pub parse_table : List ℕ → Result Table TableFault
parse_table text =
    if nat_lt longest_table (length text) then Err table_too_long
    else (if is_utf8 text then outcome (table_lines text)
    else Err bad_head)

-- ---- the text of a table

-- the leaf lines, and what is behind them
abbrev pub leaf_texts : List (List ℕ) → List ℕ → List ℕ
leaf_texts [] behind = behind
leaf_texts (d ∷ ds) behind = codes "leaf " ++ (d ++ (10 ∷ leaf_texts ds behind))

-- the text of a table
unfoldable pub table_text : Table → List ℕ
table_text t = codes "dremel-table 1" ++ (10 ∷ (codes "tablets "
    ++ (decimal t.tablets ++ (10 ∷ (codes "copies " ++ (decimal t.copies ++ (10 ∷ leaf_texts t.leaves (codes "schema" ++ (10 ∷ schema_text t.schema)))))))))
