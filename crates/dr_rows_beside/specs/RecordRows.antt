-- Rows of the columns that records have.
use Rattle.std.specs.Prelude.{◌≡◌, ℕ, List, map, length, replicate, true, false, Some, None}
use Rattle.std.specs.List.{list_all, flat_map, slice_get}
use Rattle.dr_meaning.specs.Schema.{Fields}
use Rattle.dr_meaning.specs.Path.{Step, is_leaf_path, same_path, begins_with, chain_end, max_repetition}
use Rattle.dr_meaning.specs.Record.{Node}
use Rattle.dr_meaning.specs.Column.{Triplet}
use Rattle.dr_meaning.specs.Rows.{rows, value_at}
use Rattle.dr_beside.specs.Chunks.{HasColumns}
use Rattle.dr_beside.specs.Neighbours.{column_at}
use Rattle.dr_rows_beside.specs.declared.source.Beside.{Beside}
use Rattle.dr_rows_beside.specs.Rows.{Row, source_view, is_fed, run, in_slot, is_apart, all_apart}

-- a leaf of these whose chain begins that of a path, read beside it
pub record IsBeside (F : List (List Step)) (p : List Step) (b : Beside) : Type 0 where
  pub path : List Step
  pub is_path : slice_get F b.leaf ≡ Some path
  pub deep : b.depth ≡ max_repetition path
  pub on_chain : begins_with (chain_end path) (chain_end p) ≡ true
  pub other : same_path p path ≡ false

-- different leaves beside one of these
pub record AreBeside (F : List (List Step)) (leaf : ℕ) (p : List Step) (bs : List Beside) : Type 0 where
  pub is_path : slice_get F leaf ≡ Some p
  pub each : (i : ℕ) (b : Beside) → slice_get bs i ≡ Some b → IsBeside F p b
  pub apart : (C : List (List Triplet)) → is_apart leaf (map (source_view C) bs) ≡ true
  pub all_different : (C : List (List Triplet)) → all_apart (map (source_view C) bs) ≡ true

-- before the first row the slots are empty
abbrev pub rows_of : ℕ → List Beside → List (List Triplet) → List Row
rows_of leaf bs C = run leaf (map (source_view C) bs) (replicate (length C) None) (column_at C leaf)

-- the columns of records can be read beside one another, and give the values of the rows of the leaf's chain
abbrev pub RowsOfRecords : Type 0
RowsOfRecords = (fs : Fields) (F : List (List Step)) (C : List (List Triplet)) (n : ℕ) (R : List Node) (leaf : ℕ) (p : List Step) (bs : List Beside)
    → HasColumns fs F C n R → list_all (is_leaf_path fs) F ≡ true → AreBeside F leaf p bs
    → (list_all (is_fed (column_at C leaf) (length C)) (map (source_view C) bs) ≡ true)
    × (in_slot leaf (rows_of leaf bs C) ≡ map (value_at p) (flat_map (rows (chain_end p)) R))
    × ((i : ℕ) (b : Beside) (q : List Step) → slice_get bs i ≡ Some b → slice_get F b.leaf ≡ Some q → in_slot b.leaf (rows_of leaf bs C) ≡ map (value_at q) (flat_map (rows (chain_end p)) R))
