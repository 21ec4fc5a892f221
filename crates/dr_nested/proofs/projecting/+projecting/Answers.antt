use Rattle.std.proofs.Common.{arith, sym, ap, ◌∙◌, ◌≡◌, ◌≤◌, ◌<◌, ◌+◌, ◌++◌, [], ◌∷◌, List, Option, length, get_or, map, drop}
use Rattle.std.proofs.lemmas.List.{take_all, drop_all, drop_more, map-append}
use Rattle.dr_meaning.specs.Record.{Instances}
use Rattle.dr_nested.specs.declared.record.Instance.{Instance}
use Rattle.dr_nested.specs.declared.record.Slot.{Slot}
use Rattle.dr_nested.specs.Views.{instance_view, instances_of, slot_view, slots_view}
use Rattle.dr_nested.specs.Selected.{Selected, kept, kept_one, kept_slot}
use Rattle.dr_nested.specs.SelectionView.{selection_view}
use Rattle.dr_nested.proofs.ViewLemmas.{view-node}
use Rattle.dr_nested.proofs.ProjectingLemmas.{selected_behind, onto, onto_end, kept_more, instances_kept}
use Rattle.dr_nested.proofs.projecting.+projecting.Goals as goal

pub project_instances-returns : goal.project_instances-returns
project_instances-returns t c =
    let xs = c.args.instances.now.items in
    let s = selection_view c.args.selected.now in
    let end : length xs ≤ c.instances.instance-index = omega (arith, ap length c.deref-instance-items.ensures.value) in
    ap instances_of (c.instances.invariant ∙ ap (map (λ (x : Instance). kept_one s (instance_view x))) (take_all c.instances.instance-index xs end))
    ∙ instances_kept s xs

pub project_node-slots-preserved : goal.project_node-slots-preserved
project_node-slots-preserved t c =
    let ss = c.args.node.now.slots.items in
    let s = selection_view c.args.selected.now in
    let k = c.slots.place in
    let done = map slot_view c.slots.slots.items in
    let o = c.slot-item.result in
    let p = c.in_ok-project_slot.field-0 in
    let more : k < length ss = omega (arith, ap length c.deref-slot-items.ensures.value) in
    let next : drop k ss ≡ o ∷ drop (k + 1) ss = drop_more ss k o more ∙ ap (λ (x : Slot). x ∷ drop (k + 1) ss) (sym (c.slot-item.is ∙ ap (λ (xs : List Slot). get_or xs k o) c.deref-slot-items.ensures.value)) in
    let pushed : map slot_view c.push.new.self.items ≡ done ++ slot_view p ∷ [] = ap (map slot_view) c.in_ok-push.ensures.items ∙ map-append slot_view c.slots.slots.items (p ∷ []) in
    ap (λ (os : List (Option Instances)). onto os (kept (selected_behind (k + 1) s) (slots_view (drop (k + 1) ss)))) pushed
    ∙ kept_more s k done (slot_view o) (slot_view p) (map slot_view (drop (k + 1) ss))
    (c.in_ok-project_slot.ensures ∙ ap (λ (x : Option Selected). kept_slot x (slot_view o)) c.at.ensures)
    ∙ ap (λ (xs : List Slot). onto done (kept (selected_behind k s) (slots_view xs))) (sym next)
    ∙ c.slots.invariant

pub project_node-returns : goal.project_node-returns
project_node-returns t c =
    let ss = c.args.node.now.slots.items in
    let s = selection_view c.args.selected.now in
    let k = c.slots.place in
    let end : length ss ≤ k = omega (arith, ap length c.deref-slot-items.ensures.value) in
    simp view-node (sym (onto_end (map slot_view c.slots.slots.items)) ∙ ap (λ (xs : List Slot). onto (map slot_view c.slots.slots.items) (kept (selected_behind k s) (slots_view xs))) (sym (drop_all k ss end)) ∙ c.slots.invariant)
