use Rattle.std.proofs.Common.{◌≡◌, ◌+◌, ◌*◌, true, drop}
use Rattle.serde_json.specs.View.{items_view, members_view}
use Rattle.dr_meaning.specs.JsonRecord as line
use Rattle.dr_meaning.specs.Schema.{is_group, depth, shape_depth}
use Rattle.dr_nested.specs.Views.{fields_view, shape_view, slots_view, instances_view}
use Rattle.dr_json.proofs.ReadingLemmas.{behind_instances, behind_slots}
use Rattle.dr_json.proofs.nodes.+reading.Given as goal

-- ---- how deep the schema still goes, and then which function calls which at one depth

abbrev pub decreases-instances_of : goal.decreases-instances_of
decreases-instances_of l = 8 * shape_depth (shape_view (l.field.now).shape) + 5

abbrev pub decreases-one_instance : goal.decreases-one_instance
decreases-one_instance l = 8 * shape_depth (shape_view l.shape.now) + 4

abbrev pub decreases-elements_of : goal.decreases-elements_of
decreases-elements_of l = 8 * shape_depth (shape_view l.shape.now) + 4

abbrev pub decreases-instance_of : goal.decreases-instance_of
decreases-instance_of l = 8 * shape_depth (shape_view l.shape.now) + 3

abbrev pub decreases-node_of : goal.decreases-node_of
decreases-node_of l = 8 * depth (fields_view l.fields.now) + 2

abbrev pub decreases-slots_of : goal.decreases-slots_of
decreases-slots_of l = 8 * depth (fields_view l.fields.now) + 1

-- ---- what has been read, before what is left

abbrev pub invariant-elements_of-loop-item : goal.invariant-elements_of-loop-item
invariant-elements_of-loop-item l =
    let f = line.instance_of (shape_view l.shape) in
    line.each_element f (items_view l.items) ≡ behind_instances (instances_view l.instances.items) (line.each_element f (items_view (drop l.item-index l.items)))

abbrev pub invariant-slots_of-loop-field : goal.invariant-slots_of-loop-field
invariant-slots_of-loop-field l = record {
  valid : is_group (fields_view (drop l.field-index l.fields)) ≡ true;
  read : line.slots_of (fields_view l.fields) (members_view l.object.entries) ≡ behind_slots (slots_view l.slots.items) (line.slots_of (fields_view (drop l.field-index l.fields)) (members_view l.object.entries));
}
