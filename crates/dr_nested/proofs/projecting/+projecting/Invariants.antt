use Rattle.std.proofs.Common.{◌≡◌, map, take, drop}
use Rattle.dr_nested.specs.declared.record.Instance.{Instance}
use Rattle.dr_nested.specs.Views.{instance_view, slot_view, slots_view}
use Rattle.dr_nested.specs.Selected.{kept, kept_one}
use Rattle.dr_nested.specs.SelectionView.{selection_view}
use Rattle.dr_nested.proofs.ProjectingLemmas.{onto, selected_behind}
use Rattle.dr_nested.proofs.projecting.+projecting.Given as goal

abbrev pub invariant-project_instances-instances : goal.invariant-project_instances-instances
invariant-project_instances-instances l =
    map instance_view l.kept.items ≡ map (λ (x : Instance). kept_one (selection_view l.selected) (instance_view x)) (take l.instance-index l.instances.items)

-- the slots from this one on are still to be projected
abbrev pub invariant-project_node-slots : goal.invariant-project_node-slots
invariant-project_node-slots l =
    onto (map slot_view l.slots.items) (kept (selected_behind l.place (selection_view l.selected)) (slots_view (drop l.place l.node.slots.items)))
    ≡ kept (selection_view l.selected) (slots_view l.node.slots.items)
