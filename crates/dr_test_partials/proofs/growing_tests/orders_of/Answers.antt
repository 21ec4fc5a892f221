use Rattle.std.proofs.Common.{◌∙◌, ap, arith}
use Rattle.dr_partials.specs.Trees.{tablets_of}
use Rattle.dr_partials.proofs.TreeLemmas.{fan_has_all_tablets}
use Rattle.dr_test_partials.proofs.growing_tests.orders_of.Goals as goal

pub numbers-init : goal.numbers-init
numbers-init g c = ap tablets_of c.in_ok-tree.ensures ∙ fan_has_all_tablets 5 c.args.fan (omega arith)
