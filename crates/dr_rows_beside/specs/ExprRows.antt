-- The values of a plan's expression in the rows of columns that records have.
use Rattle.std.specs.Prelude.{◌≡◌, ℕ, List, map, true, Option}
use Rattle.std.specs.List.{list_all, flat_map}
use Rattle.dr_meaning.specs.Schema.{Fields}
use Rattle.dr_meaning.specs.Path.{Step, Leaf, paths_of_leaves, is_leaf_path, chain_end}
use Rattle.dr_meaning.specs.Record.{Value, Node}
use Rattle.dr_meaning.specs.Column.{Triplet}
use Rattle.dr_meaning.specs.Rows.{rows}
use Rattle.dr_meaning.specs.Expression.{evaluate}
use Rattle.dr_plan.specs.declared.expression.Expr.{Expr}
use Rattle.dr_plan.specs.Fitting.{expr_fits}
use Rattle.dr_plan.specs.Views.{expr_view}
use Rattle.dr_scalar.specs.Leaves.{expr_leaves}
use Rattle.dr_scalar.specs.LeafLaws.{are_typed}
use Rattle.dr_scalar.specs.OverSlots.{expr_over}
use Rattle.dr_beside.specs.Chunks.{HasColumns}
use Rattle.dr_rows_beside.specs.declared.source.Beside.{Beside}
use Rattle.dr_rows_beside.specs.Rows.{Row, slot_at}
use Rattle.dr_rows_beside.specs.RecordRows.{AreBeside, rows_of}
use Rattle.dr_rows_beside.specs.Sources.{AreReadBeside}

-- the value of an expression in a row
abbrev pub value_in : Expr → Row → Option Value
value_in e r = expr_over (slot_at r.slots) e

-- of an expression whose leaves are a source's own and those beside it, the values in its rows are those in the rows of the leaf's chain
abbrev pub ValuesOfRecords : Type 0
ValuesOfRecords = (fs : Fields) (ls : List Leaf) (C : List (List Triplet)) (n : ℕ) (R : List Node) (leaf : ℕ) (p : List Step) (bs : List Beside) (e : Expr)
    → HasColumns fs (paths_of_leaves ls) C n R → list_all (is_leaf_path fs) (paths_of_leaves ls) ≡ true → AreBeside (paths_of_leaves ls) leaf p bs
    → AreReadBeside leaf bs (expr_leaves e) → expr_fits ls e ≡ true → list_all (are_typed ls) (flat_map (rows (chain_end p)) R) ≡ true
    → map (value_in e) (rows_of leaf bs C) ≡ map (evaluate (expr_view ls e)) (flat_map (rows (chain_end p)) R)
