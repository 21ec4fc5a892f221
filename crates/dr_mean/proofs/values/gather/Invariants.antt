use Rattle.std.proofs.Common.{◌≡◌, List, map, drop, true}
use Rattle.dr_meaning.specs.Path.{Step}
use Rattle.dr_meaning.specs.Record.{Node}
use Rattle.dr_meaning.specs.Rows.{rows}
use Rattle.dr_meaning.specs.Expression.{evaluate}
use Rattle.dr_nested.specs.PathView.{path_view, paths_view}
use Rattle.dr_nested.specs.declared.path.Path.{Path}
use Rattle.dr_partials.specs.Accumulators.{accumulated}
use Rattle.dr_plan.specs.Fitting.{expr_fits}
use Rattle.dr_plan.specs.Views.{expr_view, fold_view}
use Rattle.dr_group.specs.Views.{accumulator_view}
use Rattle.dr_rows.specs.Known.{known}
use Rattle.dr_rows.specs.Views.{rows_view}
use Rattle.dr_mean.specs.RowsOf.{IsTyped}
use Rattle.dr_mean.proofs.GatheringLemmas.{taken_all}
use Rattle.dr_mean.proofs.values.gather.Given as goal

-- the rows from this one on are still to be taken
abbrev pub invariant-rows : goal.invariant-rows
invariant-rows l = (leaves : List Path) (chain : List Step) (whole : Node) → IsTyped leaves whole → expr_fits (map path_view leaves) l.expression ≡ true
    → rows_view l.rows ≡ map (known (paths_view leaves) chain) (rows chain whole)
    → taken_all (accumulator_view l.gathered) (map (evaluate (expr_view (map path_view leaves) l.expression)) (drop l.number (rows chain whole)))
    ≡ accumulated (fold_view l.fold) (map (evaluate (expr_view (map path_view leaves) l.expression)) (rows chain whole))
