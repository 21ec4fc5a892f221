-- The faults of table texts, told over their lines.
use Rattle.std.specs.Prelude.{◌≡◌, ◌↔◌, ◌⊎◌, ℕ, ◌<◌, ◌≤◌, List, ◌∷◌, ◌++◌, length, true, false, codes, Err}
use Rattle.std.specs.List.{list_all}
use Rattle.std.specs.Str.{is_utf8}
use Rattle.std.specs.Fmt.{decimal}
use Rattle.dr_meaning.specs.SchemaText.{parse_schema}
use Rattle.dr_formats.specs.TableFile.{Table, TableFault, table_too_long, bad_head, bad_tablets, bad_copies, bad_leaf, bad_table_schema, parse_table, is_line_text}
use Rattle.dr_formats.specs.TableFile.{longest_table, most_tablets, most_leaf_lines, leaf_texts}
use Rattle.dr_formats.specs.TableLaws.{IsWithinLimits, SpellsTable}

-- ---- lines

-- the text begins with such a line, ended by LF
abbrev pub BeginsWith : (List ℕ → Type 0) → List ℕ → Type 0
BeginsWith IsSuch text = (l : List ℕ) × (behind : List ℕ) × (text ≡ l ++ 10 ∷ behind) × IsSuch l

-- `dremel-table 1`
abbrev pub IsHeadLine : List ℕ → Type 0
IsHeadLine l = l ≡ codes "dremel-table 1"

-- `tablets N`, with N from 1 to 4,096
abbrev pub IsTabletsLine : List ℕ → Type 0
IsTabletsLine l = (n : ℕ) × (l ≡ codes "tablets " ++ decimal n) × (0 < n) × (n ≤ most_tablets)

-- `copies K`, with K from 1 to 64
abbrev pub IsCopiesLine : List ℕ → Type 0
IsCopiesLine l = (k : ℕ) × (l ≡ codes "copies " ++ decimal k) × (0 < k) × (k ≤ most_leaf_lines)

-- `leaf DIR`, with a directory of one byte at least, none of them LF
abbrev pub IsLeafLine : List ℕ → Type 0
IsLeafLine l = (d : List ℕ) × (l ≡ codes "leaf " ++ d) × (is_line_text d ≡ true)

-- `schema`
abbrev pub IsSchemaLine : List ℕ → Type 0
IsSchemaLine l = l ≡ codes "schema"

-- ---- the lines before a fault

-- the text is the first line, and this behind it
abbrev pub HasHead : List ℕ → List ℕ → Type 0
HasHead text behind = text ≡ codes "dremel-table 1" ++ 10 ∷ behind

-- the same with the line of the tablets
abbrev pub HasTablets : List ℕ → List ℕ → Type 0
HasTablets text behind = (n : ℕ) × (0 < n) × (n ≤ most_tablets) × HasHead text (codes "tablets " ++ (decimal n ++ 10 ∷ behind))

-- the same with the line of so many copies
abbrev pub HasCopies : ℕ → List ℕ → List ℕ → Type 0
HasCopies k text behind = (0 < k) × (k ≤ most_leaf_lines) × HasTablets text (codes "copies " ++ (decimal k ++ 10 ∷ behind))

-- the same with so many leaf lines
abbrev pub HasLeaves : ℕ → ℕ → List ℕ → List ℕ → Type 0
HasLeaves k i text behind = (ds : List (List ℕ)) × (list_all is_line_text ds ≡ true) × (length ds ≡ i) × (i ≤ most_leaf_lines)
    × HasCopies k text (leaf_texts ds behind)

-- the same, one leaf line at least, with the line `schema`
abbrev pub HasSchema : ℕ → ℕ → List ℕ → List ℕ → Type 0
HasSchema k i text behind = (0 < i) × HasLeaves k i text (codes "schema" ++ 10 ∷ behind)

-- ---- the faults

-- behind so many leaf lines neither a further one follows, of which there are 64 at most, nor the line `schema`, before which there is one at least
abbrev pub IsNoLeafLine : ℕ → List ℕ → Type 0
IsNoLeafLine i behind = (i < most_leaf_lines → BeginsWith IsLeafLine behind → ⊥) × (0 < i → BeginsWith IsSchemaLine behind → ⊥)

-- a text that isn't too long, in UTF-8
abbrev pub IsReadable : List ℕ → Type 0
IsReadable text = (length text ≤ longest_table) × (is_utf8 text ≡ true)

-- what is first wrong with the text: it is too long; the lines before are as they should be, and the next isn't, or the bytes aren't UTF-8; all lines are
-- as they should be, but there are fewer leaf lines than copies; there are enough, and the schema text behind them has this fault
abbrev pub HasFault : List ℕ → TableFault → Type 0
HasFault text table_too_long = longest_table < length text
HasFault text bad_head = (length text ≤ longest_table) × ((is_utf8 text ≡ false) ⊎ (BeginsWith IsHeadLine text → ⊥))
HasFault text bad_tablets = IsReadable text × (behind : List ℕ) × HasHead text behind × (BeginsWith IsTabletsLine behind → ⊥)
HasFault text bad_copies = IsReadable text × (((behind : List ℕ) × HasTablets text behind × (BeginsWith IsCopiesLine behind → ⊥))
    ⊎ ((behind : List ℕ) × (k : ℕ) × (i : ℕ) × HasSchema k i text behind × (i < k)))
HasFault text (bad_leaf i) = IsReadable text × (behind : List ℕ) × (k : ℕ) × HasLeaves k i text behind × IsNoLeafLine i behind
HasFault text (bad_table_schema e) = IsReadable text × (behind : List ℕ) × (k : ℕ) × (i : ℕ) × HasSchema k i text behind × (k ≤ i)
    × (parse_schema behind ≡ Err e)

-- ---- the laws

-- a fault is told exactly where the text has it
abbrev pub TableFaultIsTold : Type 0
TableFaultIsTold = (text : List ℕ) (e : TableFault) → (parse_table text ≡ Err e) ↔ HasFault text e

-- a text has at most one
abbrev pub OneTableFault : Type 0
OneTableFault = (text : List ℕ) (e f : TableFault) → HasFault text e → HasFault text f → e ≡ f

-- a text that is readable and spells a table within the limits
abbrev pub IsTableText : List ℕ → Type 0
IsTableText text = (t : Table) × IsReadable text × IsWithinLimits t × SpellsTable t text

-- each text is a table's or has a fault, and none is both
abbrev pub TableOrFault : Type 0
TableOrFault = (text : List ℕ) → (IsTableText text ⊎ ((e : TableFault) × HasFault text e))
    × (IsTableText text → (e : TableFault) → HasFault text e → ⊥)
