use Rattle.std.proofs.Common.{◌≡◌, ◌≤◌, ◌+◌, ◌*◌, length, map, take, drop}
use Rattle.dr_nested.specs.PathView.{step_view}
use Rattle.dr_nested.specs.Views.{instance_view, instances_view}
use Rattle.dr_rows.specs.Pruning.{pruned_along, pruned_each, pruned_instance}
use Rattle.dr_rows.proofs.PruningLemmas.{onto}
use Rattle.dr_rows.proofs.pruning.+pruning.Given as goal

abbrev pub decreases-prune_node : goal.decreases-prune_node
decreases-prune_node l = 6 * length l.chain.now + 0

abbrev pub decreases-prune_field : goal.decreases-prune_field
decreases-prune_field l = 6 * length l.chain.now + 5

abbrev pub decreases-prune_slot : goal.decreases-prune_slot
decreases-prune_slot l = 6 * length l.chain.now + 4

abbrev pub decreases-prune_held : goal.decreases-prune_held
decreases-prune_held l = 6 * length l.chain.now + 3

abbrev pub decreases-prune_instances : goal.decreases-prune_instances
decreases-prune_instances l = 6 * length l.chain.now + 2

abbrev pub decreases-prune_instance : goal.decreases-prune_instance
decreases-prune_instance l = 6 * length l.chain.now + 1

-- the instances from this one on are still to be pruned
abbrev pub invariant-prune_instances-instances : goal.invariant-prune_instances-instances
invariant-prune_instances-instances l =
    let below = pruned_instance (pruned_along (map step_view l.chain)) in
    let rest = pruned_each below (instances_view (drop l.number l.instances.items)) l.answers.rest.now in
    record {
      before : l.kept ≤ l.number;
      length : length l.instances.items ≡ length l.initial.instances.items;
      kept : onto (map instance_view (take l.kept l.instances.items)) rest.kept ≡ (pruned_each below (instances_view l.initial.instances.items) l.initial.answers.rest.now).kept;
      left : rest.left ≡ (pruned_each below (instances_view l.initial.instances.items) l.initial.answers.rest.now).left;
    }
