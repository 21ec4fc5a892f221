-- What is read from each line of a table file on.
use Rattle.std.specs.Prelude.{ℕ, List, [], ◌++◌, length, Bool, true, false, ◌&&◌, nat_lt, bytes_eq, codes, Result, Err}
use Rattle.dr_formats.specs.Reading.{Reader, give, ◌>>=◌}
use Rattle.dr_formats.specs.TableFile.{Table, TableFault, bad_tablets, bad_copies, bad_leaf, most_tablets, most_leaf_lines, number_behind, at_most}
use Rattle.dr_formats.specs.TableFile.{found, line_as, leaf_lines, schema_behind, outcome}

-- behind the line `schema`
abbrev pub from_schema : ℕ → ℕ → List (List ℕ) → Reader TableFault Table
from_schema tablets copies leaves = do
  _ ← found bad_copies (at_most (length leaves) copies)
  schema ← schema_behind
  give (record { schema = schema; leaves = leaves; copies = copies; tablets = tablets })

-- behind the lines of these leaves, where so many more may follow
abbrev pub from_leaves : ℕ → ℕ → ℕ → List (List ℕ) → Reader TableFault Table
from_leaves most tablets copies leaves = do
  ds ← leaf_lines most (length leaves)
  from_schema tablets copies (leaves ++ ds)

-- from the third line on
abbrev pub from_copies : ℕ → Reader TableFault Table
from_copies tablets = do
  copies ← line_as bad_copies (number_behind (codes "copies ") most_leaf_lines)
  from_leaves most_leaf_lines tablets copies []

-- from the second line on
abbrev pub from_tablets : Reader TableFault Table
from_tablets = do
  tablets ← line_as bad_tablets (number_behind (codes "tablets ") most_tablets)
  from_copies tablets

-- the line `schema`, behind one leaf line at least
abbrev pub is_schema_line : List (List ℕ) → List ℕ → Bool
is_schema_line leaves t = bytes_eq t (codes "schema") && nat_lt 0 (length leaves)

-- the table at a line that is no leaf line or may not be one: it is `schema`, where the leaf lines may end
abbrev pub at_last_line : ℕ → ℕ → List (List ℕ) → List ℕ → Bool → Result Table TableFault
at_last_line tablets copies leaves behind true = outcome (from_schema tablets copies leaves behind)
at_last_line tablets copies leaves behind false = Err (bad_leaf (length leaves))
