-- The answers of a plan's test in the rows of columns that records have.
use Rattle.std.specs.Prelude.{◌≡◌, ℕ, List, map, true}
use Rattle.std.specs.List.{list_all, flat_map}
use Rattle.dr_meaning.specs.Schema.{Fields}
use Rattle.dr_meaning.specs.Path.{Step, Leaf, paths_of_leaves, is_leaf_path, chain_end}
use Rattle.dr_meaning.specs.Record.{Node}
use Rattle.dr_meaning.specs.Column.{Triplet}
use Rattle.dr_meaning.specs.Rows.{rows}
use Rattle.dr_meaning.specs.Expression.{is_true, evaluate}
use Rattle.dr_plan.specs.declared.expression.Truth.{Truth}
use Rattle.dr_plan.specs.Fitting.{truth_fits}
use Rattle.dr_plan.specs.Views.{truth_view}
use Rattle.dr_scalar.specs.Leaves.{truth_leaves}
use Rattle.dr_scalar.specs.LeafLaws.{are_typed}
use Rattle.dr_beside.specs.Chunks.{HasColumns}
use Rattle.dr_rows_beside.specs.declared.source.Beside.{Beside}
use Rattle.dr_rows_beside.specs.Answers.{holds_in}
use Rattle.dr_rows_beside.specs.RecordRows.{AreBeside, rows_of}
use Rattle.dr_rows_beside.specs.Sources.{AreReadBeside}

-- the answers that code puts are those of the test in the rows of the leaf's chain
abbrev pub AnswersOfRecords : Type 0
AnswersOfRecords = (fs : Fields) (ls : List Leaf) (C : List (List Triplet)) (n : ℕ) (R : List Node) (leaf : ℕ) (p : List Step) (bs : List Beside) (t : Truth)
    → HasColumns fs (paths_of_leaves ls) C n R → list_all (is_leaf_path fs) (paths_of_leaves ls) ≡ true → AreBeside (paths_of_leaves ls) leaf p bs
    → AreReadBeside leaf bs (truth_leaves t) → truth_fits ls t ≡ true → list_all (are_typed ls) (flat_map (rows (chain_end p)) R) ≡ true
    → map (holds_in t) (rows_of leaf bs C) ≡ map (λ (m : Node). is_true (evaluate (truth_view ls t) m)) (flat_map (rows (chain_end p)) R)
