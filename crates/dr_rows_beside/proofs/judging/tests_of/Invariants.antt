use Rattle.std.proofs.Common.{take}
use Rattle.dr_nested.specs.PathView.{paths_view}
use Rattle.dr_rows_beside.specs.Makings.{AreMadeOf, reading}
use Rattle.dr_rows_beside.proofs.judging.tests_of.Given as goal

-- those of the tests before this one are made
abbrev pub invariant-tests : goal.invariant-tests
invariant-tests l = AreMadeOf (paths_view l.plan.leaves.items) (reading (take l.truth-index l.plan.test.items)) l.made.items
