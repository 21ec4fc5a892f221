use Rattle.std.proofs.Common.{◌≡◌, ◌++◌, List, map, drop}
use Rattle.dr_meaning.specs.Path.{Step}
use Rattle.dr_meaning.specs.Record.{Node}
use Rattle.dr_meaning.specs.Rows.{rows}
use Rattle.dr_rows.specs.Known.{known}
use Rattle.dr_rows.specs.Views.{rows_view}
use Rattle.dr_scalar.specs.Tests.{all_true}
use Rattle.dr_mean.specs.Condition.{plan_tests}
use Rattle.dr_mean.specs.RowsOf.{IsTyped}
use Rattle.dr_mean.proofs.keeping.answer_rows.Given as goal
use Rattle.dr_nested.specs.PathView.{paths_view}

-- the rows from this one on are still to be tested
abbrev pub invariant-rows : goal.invariant-rows
invariant-rows l = (chain : List Step) (n : Node) → IsTyped l.plan.leaves.items n
    → rows_view l.rows ≡ map (known (paths_view l.plan.leaves.items) chain) (rows chain n)
    → l.answers.items ++ map (all_true (plan_tests l.plan)) (drop l.number (rows chain n)) ≡ map (all_true (plan_tests l.plan)) (rows chain n)
