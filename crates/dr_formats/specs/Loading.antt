-- What the command `load` does: which words it refuses, which tablets it puts and in which order, and where it stops.
use Rattle.std.specs.Prelude.{ℕ, suc, ◌*◌, List, [], ◌∷◌, ◌++◌, map, length, filter, Bool, ◌==◌, nat_le, if◌then◌else◌, Option, Some, None}
use Rattle.dr_meaning.specs.Schema.{Schema}
use Rattle.dr_meaning.specs.Record.{Node}
use Rattle.dr_meaning.specs.Lines.{Refusal, lines_of, Taken, taken_from}
use Rattle.dr_formats.specs.Page.{PageForm}
use Rattle.dr_formats.specs.Writing.{file_bytes}
use Rattle.dr_formats.specs.Tablets.{tablets, copy_paths}
use Rattle.dr_formats.specs.TableFile.{Table, most_tablets, table_text, is_line_text}

-- ---- the limits

-- how many records a tablet may be made to have
abbrev pub most_tablet_rows : ℕ
most_tablet_rows = 1000000

-- how many records are taken, so many to a tablet
abbrev pub most_loaded : ℕ → ℕ
most_loaded rows = most_tablets * rows

-- ---- words

-- why the words are refused: the nth directory, from 0, is empty or has an LF; there are more copies than directories
pub data WordsRefusal : Type 0 where
  leaf_refused : ℕ → WordsRefusal
  copies_refused : WordsRefusal

-- the first directory that is refused, where the first of these has this number
abbrev pub first_refused : ℕ → List (List ℕ) → Option ℕ
first_refused n [] = None
first_refused n (d ∷ ds) = if is_line_text d then first_refused (suc n) ds else Some n

abbrev pub or_copies : Bool → Option ℕ → Option WordsRefusal
or_copies fits (Some n) = Some (leaf_refused n)
or_copies fits None = if fits then None else Some copies_refused

-- the directories come before the copies
abbrev pub words_refusal : List (List ℕ) → ℕ → Option WordsRefusal
words_refusal directories copies = or_copies (nat_le copies (length directories)) (first_refused 0 directories)

-- ---- puts

-- a file: its path and its bytes
pub record Put : Type 0 where
  pub path : List ℕ
  pub bytes : List ℕ

-- where to load: the schema, the directories, how many copies of each tablet, how many records to a tablet, where the table file goes if it is to be put; in pages
-- of which form
pub record Plan : Type 0 where
  pub schema : Schema
  pub directories : List (List ℕ)
  pub copies : ℕ
  pub rows : ℕ
  pub table : Option (List ℕ)
  pub form : PageForm

-- a tablet, on each of its leaves in order
abbrev pub tablet_puts : Plan → ℕ → List Node → List Put
tablet_puts p i R = map (λ path. record { path = path; bytes = file_bytes p.form p.schema R }) (copy_paths p.directories p.copies i)

-- tablets in order, the first of which has this number
abbrev pub puts_from : Plan → ℕ → List (List Node) → List Put
puts_from p i [] = []
puts_from p i (t ∷ ts) = tablet_puts p i t ++ puts_from p (suc i) ts

-- the table of so many tablets
abbrev pub table_of : Plan → ℕ → Table
table_of p n = record { schema = p.schema; leaves = p.directories; copies = p.copies; tablets = n }

abbrev pub put_at : Option (List ℕ) → List ℕ → List Put
put_at None bytes = []
put_at (Some path) bytes = record { path = path; bytes = bytes } ∷ []

-- all tablets, and the table file last
abbrev pub whole_puts : Plan → List (List Node) → List Put
whole_puts p ts = puts_from p 0 ts ++ put_at p.table (table_text (table_of p (length ts)))

-- the tablets that are full: they are put before the next line is read
abbrev pub full_tablets : ℕ → List (List Node) → List (List Node)
full_tablets rows ts = filter (λ t. length t == rows) ts

-- where a line is refused, the full tablets of the records before it; else all, and the table
abbrev pub puts_of : Plan → List Node → Option Refusal → List Put
puts_of p R (Some e) = puts_from p 0 (full_tablets p.rows (tablets p.rows R))
puts_of p R None = whole_puts p (tablets p.rows R)

-- ---- the command

-- what is put, in order; how many records and tablets are loaded, where no line is refused
pub record Loaded : Type 0 where
  pub puts : List Put
  pub records : ℕ
  pub tablets : ℕ
  pub refusal : Option Refusal

abbrev pub load_taken : Plan → Taken → Loaded
load_taken p t = record { puts = puts_of p t.records t.refusal; records = length t.records; tablets = length (tablets p.rows t.records); refusal = t.refusal }

-- what `load` does with an input
unfoldable pub load : Plan → List ℕ → Loaded
load p input = load_taken p (taken_from p.schema.fields (most_loaded p.rows) 1 (lines_of input))
