-- What the bits of a condition mean: which rows of the records that have some columns it keeps.
use Rattle.std.specs.Prelude.{◌≡◌, ℕ, List, [], ◌∷◌, map, Bool, true, false, Some}
use Rattle.std.specs.List.{list_all, flat_map, slice_get}
use Rattle.dr_meaning.specs.Schema.{Fields}
use Rattle.dr_meaning.specs.Path.{Step, Leaf, paths_of_leaves, is_leaf_path, begins_with, chain_end, common, max_repetition}
use Rattle.dr_meaning.specs.Record.{Node}
use Rattle.dr_meaning.specs.Column.{Triplet, column}
use Rattle.dr_meaning.specs.Rows.{rows}
use Rattle.dr_meaning.specs.Expression.{is_true, evaluate}
use Rattle.dr_moves.specs.Selection.{all_differ}
use Rattle.dr_kept_laws.specs.RowsOfKept.{kept_rows}
use Rattle.dr_plan.specs.declared.expression.Truth.{Truth}
use Rattle.dr_plan.specs.Fitting.{truth_fits}
use Rattle.dr_plan.specs.Views.{truth_view}
use Rattle.dr_scalar.specs.Leaves.{truth_leaves}
use Rattle.dr_scalar.specs.LeafLaws.{are_typed}
use Rattle.dr_beside.specs.Chunks.{HasColumns}
use Rattle.dr_beside.specs.Sifting.{sift}
use Rattle.dr_rows_beside.specs.declared.judging.Test.{Test}
use Rattle.dr_rows_beside.specs.Bits.{gathered}
use Rattle.dr_rows_beside.specs.Sources.{all_beside, AreOnItsChain}
use Rattle.dr_rows_beside.specs.Keepings.{levels_of, judged}

-- whether a plan's test is true in a row
abbrev pub holds : List Leaf → Truth → Node → Bool
holds ls t m = is_true (evaluate (truth_view ls t) m)

abbrev pub all_hold : List Leaf → List Test → Node → Bool
all_hold ls ts m = list_all (λ (t : Test). holds ls t.truth.now m) ts

-- a test of a plan, made of one whose leaves are on one chain
pub record IsTestOf (ls : List Leaf) (t : Test) : Type 0 where
  pub path : List Step
  pub is_path : slice_get (paths_of_leaves ls) t.source.leaf ≡ Some path
  pub deep : t.depth ≡ max_repetition path
  pub read : t.source.beside.items ≡ all_beside (paths_of_leaves ls) t.source.leaf [] (truth_leaves t.truth.now)
  pub on_chain : AreOnItsChain (paths_of_leaves ls) path (truth_leaves t.truth.now)
  pub fits : truth_fits ls t.truth.now ≡ true

-- each of these, on the chain of a path
abbrev pub AreTestsOf : List Leaf → List Step → List Test → Type 0
AreTestsOf ls p [] = Unit {0}
AreTestsOf ls p (t ∷ ts) = ((w : IsTestOf ls t) × (begins_with (chain_end w.path) (chain_end p) ≡ true)) × AreTestsOf ls p ts

-- the rows of each leaf's chain have values of the leaves' types
abbrev pub RowsAreTyped : List Leaf → List Node → Type 0
RowsAreTyped ls R = (k : ℕ) (p : List Step) → slice_get (paths_of_leaves ls) k ≡ Some p → list_all (are_typed ls) (flat_map (rows (chain_end p)) R) ≡ true

-- the bits of the last leaf's triplets tell in which rows of its chain all tests are true
abbrev pub JudgedBits : Type 0
JudgedBits = (fs : Fields) (ls : List Leaf) (C : List (List Triplet)) (n : ℕ) (R : List Node) (own : Test) (others : List Test)
    → HasColumns fs (paths_of_leaves ls) C n R → list_all (is_leaf_path fs) (paths_of_leaves ls) ≡ true → all_differ (paths_of_leaves ls) ≡ true → RowsAreTyped ls R
    → (w : IsTestOf ls own) → AreTestsOf ls w.path others
    → judged C own others ≡ map (all_hold ls (own ∷ others)) (flat_map (rows (chain_end w.path)) R)

-- and those that are gathered of them at the common depth tell which rows of another leaf's chain the condition keeps
abbrev pub JudgedRowsAreKept : Type 0
JudgedRowsAreKept = (fs : Fields) (ls : List Leaf) (C : List (List Triplet)) (n : ℕ) (R : List Node) (own : Test) (others : List Test) (p : List Step)
    → HasColumns fs (paths_of_leaves ls) C n R → list_all (is_leaf_path fs) (paths_of_leaves ls) ≡ true → all_differ (paths_of_leaves ls) ≡ true → RowsAreTyped ls R
    → (w : IsTestOf ls own) → AreTestsOf ls w.path others → is_leaf_path fs p ≡ true
    → sift (common p w.path) false (gathered (common p w.path) (levels_of C own) (judged C own others)) (column p R) (flat_map (rows (chain_end p)) R)
    ≡ flat_map (kept_rows (chain_end p) (chain_end w.path) (all_hold ls (own ∷ others))) R
