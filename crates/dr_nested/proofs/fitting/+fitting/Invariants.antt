use Rattle.std.proofs.Common.{◌≡◌, drop}
use Rattle.dr_meaning.specs.Record.{all_instances, is_instance, is_record}
use Rattle.dr_nested.specs.Views.{shape_view, fields_view, instances_view, slots_view}
use Rattle.dr_nested.proofs.fitting.+fitting.Given as goal

-- the instances from this one on decide
abbrev pub invariant-are_instances-instances : goal.invariant-are_instances-instances
invariant-are_instances-instances l =
    all_instances (is_instance (shape_view l.shape)) (instances_view (drop l.instance-index l.instances.items))
    ≡ all_instances (is_instance (shape_view l.shape)) (instances_view l.instances.items)

-- the slots from this one on decide
abbrev pub invariant-is_group-slots : goal.invariant-is_group-slots
invariant-is_group-slots l =
    is_record (fields_view (drop l.place l.fields.items)) (slots_view (drop l.place l.node.slots.items))
    ≡ is_record (fields_view l.fields.items) (slots_view l.node.slots.items)
