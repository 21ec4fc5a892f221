use Rattle.std.proofs.Common.{◌≡◌, ◌≤◌, ◌+◌, ◌-◌, ◌*◌, length, map, drop}
use Rattle.dr_meaning.specs.Schema.{depth, shape_depth}
use Rattle.dr_nested.specs.Views.{shape_view, fields_view, instance_view, slot_view}
use Rattle.dr_assemble.specs.Restoring as restoring
use Rattle.dr_assemble.specs.Views.{strips_view}
use Rattle.dr_assemble.proofs.LoopLemmas.{behind, behind_slots}
use Rattle.dr_assemble.proofs.restoring.+restoring.Given as goal

-- ---- how deep the schema still goes, and then which function calls which at one depth

abbrev pub decreases-restore_slot : goal.decreases-restore_slot
decreases-restore_slot l = 8 * shape_depth (shape_view (l.field.now).shape) + 5

abbrev pub decreases-restore_instances : goal.decreases-restore_instances
decreases-restore_instances l = 8 * shape_depth (shape_view (l.field.now).shape) + 4

abbrev pub decreases-restore_each : goal.decreases-restore_each
decreases-restore_each l = 8 * shape_depth (shape_view l.shape.now) + 3

abbrev pub decreases-restore_single : goal.decreases-restore_single
decreases-restore_single l = 8 * shape_depth (shape_view l.shape.now) + 3

abbrev pub decreases-restore_instance : goal.decreases-restore_instance
decreases-restore_instance l = 8 * shape_depth (shape_view l.shape.now) + 2

abbrev pub decreases-restore_node : goal.decreases-restore_node
decreases-restore_node l = 8 * depth (fields_view (l.fields.now).items) + 1

-- ---- what was restored, before what is left

-- the instances from this one on are still to be restored of what the earlier ones left
abbrev pub invariant-restore_each-instances : goal.invariant-restore_each-instances
invariant-restore_each-instances l =
    let f = restoring.assembled_one (shape_view l.shape) l.level l.definition in
    record {
      lengths : length l.first.items ≡ length l.left.items;
      so_far : restoring.restored_each f l.level l.count (strips_view l.strips) ≡ behind (map instance_view l.instances.items) (restoring.restored_each f l.level (l.count - l.done) (strips_view l.left.items));
    }

-- the slots from this one on are still to be restored of the strips from there on
abbrev pub invariant-restore_node-fields : goal.invariant-restore_node-fields
invariant-restore_node-fields l = record {
  within : l.from ≤ length l.strips;
  left : restoring.assembled (fields_view l.fields.items) 0 l.level l.definition (strips_view l.strips)
      ≡ behind_slots (map slot_view l.slots.items) (restoring.assembled (fields_view (drop l.place l.fields.items)) l.place l.level l.definition (strips_view (drop l.from l.strips)));
}
