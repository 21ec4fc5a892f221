use Rattle.std.proofs.Common.{string_bytes}
use Rattle.dr_print.proofs.AutomatonLemmas.{no_leaves, one_leaf}
use Rattle.dr_print.proofs.transitions.push_leaves.Goals as goal

pub leaves-init : goal.leaves-init
leaves-init c = no_leaves c.args.leaves.now (string_bytes c.args.text.now)

pub leaves-preserved : goal.leaves-preserved
leaves-preserved c =
    one_leaf c.args.leaves.now c.leaves.place c.index-leaves-place.result (string_bytes c.args.text.now) (string_bytes c.leaves.text) (string_bytes c.push_leaf.new.text)
    c.leaves-test.true c.index-leaves-place.is c.in_ok-push_leaf.ensures c.leaves.invariant
