use Rattle.std.proofs.Common.{◌≡◌}
use Rattle.std.specs.List.{range_with_len}
use Rattle.dr_partials.specs.Trees.{tablets_of}
use Rattle.dr_tree.specs.Views.{tree_view}
use Rattle.dr_test_partials.proofs.growing_tests.orders_of.Given as goal

abbrev pub invariant-numbers : goal.invariant-numbers
invariant-numbers g l = tablets_of (tree_view l.tree) ≡ range_with_len 0 5
