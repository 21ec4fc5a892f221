-- The rows that a condition keeps of the columns that records have: they hold the values of what it leaves of the records.
use Rattle.std.specs.Prelude.{◌≡◌, ℕ, List, ◌∷◌, length, Bool, true}
use Rattle.std.specs.List.{list_all, flat_map, filter_map}
use Rattle.dr_meaning.specs.Schema.{Fields}
use Rattle.dr_meaning.specs.Path.{Step, Leaf, paths_of_leaves, is_leaf_path, chain_end, common}
use Rattle.dr_meaning.specs.Record.{Node}
use Rattle.dr_meaning.specs.Column.{Triplet}
use Rattle.dr_meaning.specs.Rows.{rows}
use Rattle.dr_meaning.specs.Kept.{kept_along}
use Rattle.dr_moves.specs.Selection.{all_differ}
use Rattle.dr_beside.specs.Chunks.{HasColumns}
use Rattle.dr_beside.specs.Neighbours.{column_at}
use Rattle.dr_rows_beside.specs.declared.source.Beside.{Beside}
use Rattle.dr_rows_beside.specs.Rows.{Row, picked}
use Rattle.dr_rows_beside.specs.RecordRows.{AreBeside, rows_of}
use Rattle.dr_rows_beside.specs.Slots.{EachSlot}
use Rattle.dr_rows_beside.specs.Sources.{AreReadBeside}
use Rattle.dr_rows_beside.specs.declared.judging.Test.{Test}
use Rattle.dr_rows_beside.specs.Bits.{set_bits}
use Rattle.dr_rows_beside.specs.Kept.{all_hold, IsTestOf, AreTestsOf, RowsAreTyped}
use Rattle.dr_rows_beside.specs.KeptBits.{bits_of, kept_bits}

-- what a test leaves of records along its chain
abbrev pub left_of : List Step → (Node → Bool) → List Node → List Node
left_of c test R = filter_map (kept_along c test) R

-- those rows of a source whose bit is set, of a leaf with this path
abbrev pub kept_rows_of : List (List Triplet) → Test → List Test → List Step → List Step → ℕ → List Beside → List Row
kept_rows_of C own others l p leaf bs = picked (kept_bits C own others (common p l) (column_at C leaf)) (rows_of leaf bs C)

-- they are as many as the rows of what is left, and their slots hold its values
abbrev pub KeptRowsOfRecords : Type 0
KeptRowsOfRecords = (fs : Fields) (ls : List Leaf) (C : List (List Triplet)) (n : ℕ) (R : List Node) (own : Test) (others : List Test) (leaf : ℕ) (p : List Step) (bs : List Beside) (ks : List ℕ)
    → HasColumns fs (paths_of_leaves ls) C n R → list_all (is_leaf_path fs) (paths_of_leaves ls) ≡ true → all_differ (paths_of_leaves ls) ≡ true → RowsAreTyped ls R
    → (w : IsTestOf ls own) → AreTestsOf ls w.path others → AreBeside (paths_of_leaves ls) leaf p bs → AreReadBeside leaf bs ks
    → (length (kept_rows_of C own others w.path p leaf bs) ≡ length (flat_map (rows (chain_end p)) (left_of (chain_end w.path) (all_hold ls (own ∷ others)) R)))
    × EachSlot ls ks (kept_rows_of C own others w.path p leaf bs) (flat_map (rows (chain_end p)) (left_of (chain_end w.path) (all_hold ls (own ∷ others)) R))

-- as many bits are set at depth 0 as records are left
abbrev pub KeptRecordsAreCounted : Type 0
KeptRecordsAreCounted = (fs : Fields) (ls : List Leaf) (C : List (List Triplet)) (n : ℕ) (R : List Node) (own : Test) (others : List Test)
    → HasColumns fs (paths_of_leaves ls) C n R → list_all (is_leaf_path fs) (paths_of_leaves ls) ≡ true → all_differ (paths_of_leaves ls) ≡ true → RowsAreTyped ls R
    → (w : IsTestOf ls own) → AreTestsOf ls w.path others
    → set_bits (bits_of C own others 0) ≡ length (left_of (chain_end w.path) (all_hold ls (own ∷ others)) R)
