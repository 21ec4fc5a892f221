use Rattle.std.proofs.Common.{rules, ◌≡◌, ◌≤◌, ◌<◌, suc, ◌+◌, ◌-◌, ◌++◌, [], ◌∷◌, List, Option, Some, None, map, length, get_or, take, drop, Vec, Global, sym, ap, ap₂, ◌∙◌, arith}
use Rattle.std.proofs.lemmas.List.{map-append}
use Rattle.dr_meaning.specs.Record as record_tree
use Rattle.dr_nested.specs.declared.shape.Rep.{Rep}
use Rattle.dr_nested.specs.declared.shape.Field.{Field}
use Rattle.dr_nested.specs.declared.record.Instance.{Instance}
use Rattle.dr_nested.specs.Views.{rep_view, shape_view, fields_view, instance_view, slot_view, node_view}
use Rattle.dr_nested.proofs.ViewLemmas.{view-node}
use Rattle.dr_levels.specs.Views.{triplets_view}
use Rattle.dr_assemble.specs.Restoring as restoring
use Rattle.dr_assemble.specs.Restoring.{first_pieces, other_pieces, front_at, after_front}
use Rattle.dr_assemble.specs.Views.{strips_view}
use Rattle.dr_assemble.specs.declared.strip.Strip.{Strip}
use Rattle.dr_assemble.proofs.LoopLemmas.{written_back, behind, behind_slots, instance_more, instance_fails, slot_more, slot_fails, slots_end, shape_depth-field, fails_from, restores_same, repeated_instances}
use Rattle.dr_assemble.proofs.FrontLemmas.{front_within, left_behind, front_lent}
use Rattle.dr_assemble.proofs.restoring.+restoring.Goals as goal

pub restore_each-returns-in_err-restore_instance : goal.restore_each-returns-in_err-restore_instance
restore_each-returns-in_err-restore_instance t c =
    let l = c.args.level in
    let f = restoring.assembled_one (shape_view c.args.shape.now) l c.args.definition in
    let S = strips_view c.instances.left.items in
    let m = restoring.restored_each f l c.args.count (strips_view c.args.strips.now) in
    let first : take c.instances.first.len (c.cut.new.first ++ drop (length c.cut.new.first) c.instances.first.items) ≡ c.cut.new.first =
    written_back c.cut.new.first c.instances.first.items c.instances.first.len (omega (arith, c.cut.auto.first, ap length c.deref_mut-in-instances.ensures.value)) (omega (arith, c.instances.first.ok.0)) in
    let piece : strips_view c.deref.result.now ≡ first_pieces l S =
    ap strips_view (c.deref.ensures.value ∙ first) ∙ c.cut.ensures.first ∙ ap (λ (ss : List Strip). first_pieces l (strips_view ss)) c.deref_mut.ensures.value in
    let one_left : c.args.count - c.instances.done ≡ suc (c.args.count - (c.instances.done + 1)) = omega arith in
    fails_from (λ (v : Vec Instance Global). map instance_view v.items) instance_view m (f (strips_view c.deref.result.now)) _ c.in_err-restore_instance.field-0.0 c.from_residual-in_err-restore_instance.ensures.1 c.in_err-restore_instance.ensures
    (λ (e : f (strips_view c.deref.result.now) ≡ None).
    instance_fails f l (c.args.count - c.instances.done) (c.args.count - (c.instances.done + 1)) S (map instance_view c.instances.instances.items) m c.instances.invariant.so_far one_left (sym (ap f piece) ∙ e))

pub restore_each-instances-preserved : goal.restore_each-instances-preserved
restore_each-instances-preserved t c =
    let l = c.args.level in
    let f = restoring.assembled_one (shape_view c.args.shape.now) l c.args.definition in
    let S = strips_view c.instances.left.items in
    let m = restoring.restored_each f l c.args.count (strips_view c.args.strips.now) in
    let first : take c.instances.first.len (c.cut.new.first ++ drop (length c.cut.new.first) c.instances.first.items) ≡ c.cut.new.first =
    written_back c.cut.new.first c.instances.first.items c.instances.first.len (omega (arith, c.cut.auto.first, ap length c.deref_mut-in-instances.ensures.value)) (omega (arith, c.instances.first.ok.0)) in
    let piece : strips_view c.deref.result.now ≡ first_pieces l S =
    ap strips_view (c.deref.ensures.value ∙ first) ∙ c.cut.ensures.first ∙ ap (λ (ss : List Strip). first_pieces l (strips_view ss)) c.deref_mut.ensures.value in
    let one_left : c.args.count - c.instances.done ≡ suc (c.args.count - (c.instances.done + 1)) = omega arith in
    let left : take c.instances.left.len (c.cut.new.left ++ drop (length c.cut.new.left) c.instances.left.items) ≡ c.cut.new.left =
    written_back c.cut.new.left c.instances.left.items c.instances.left.len (omega (arith, c.cut.auto.left, ap length c.deref_mut.ensures.value)) (omega (arith, c.instances.left.ok.0)) in
    let x = c.in_ok-restore_instance.field-0 in
    let others : strips_view (take c.instances.left.len (c.cut.new.left ++ drop (length c.cut.new.left) c.instances.left.items)) ≡ other_pieces l S =
    ap strips_view left ∙ c.cut.ensures.others ∙ ap (λ (ss : List Strip). other_pieces l (strips_view ss)) c.deref_mut.ensures.value in
    let pushed : map instance_view c.push.new.self.items ≡ map instance_view c.instances.instances.items ++ instance_view x ∷ [] = ap (map instance_view) c.in_ok-push.ensures.items ∙ map-append instance_view c.instances.instances.items (x ∷ []) in
    record {
      lengths = omega (arith, ap length first, ap length left, c.cut.auto.first, c.cut.auto.left, ap length c.deref_mut.ensures.value, ap length c.deref_mut-in-instances.ensures.value, c.instances.invariant.lengths);
      so_far =
          instance_more f l (c.args.count - c.instances.done) (c.args.count - (c.instances.done + 1)) S (map instance_view c.instances.instances.items) m c.instances.invariant.so_far one_left (instance_view x) (sym (ap f piece) ∙ c.in_ok-restore_instance.ensures)
          ∙ ap₂ (λ (ys : List record_tree.Instance) (T : List restoring.Strip). behind ys (restoring.restored_each f l (c.args.count - (c.instances.done + 1)) T)) (sym pushed) (sym others);
    }

pub restore_instances-returns-in-Repeated : goal.restore_instances-returns-in-Repeated
restore_instances-returns-in-Repeated t c =
    let f = c.args.field.now in
    let is : f.rep ≡ Rep.Repeated = search rules in
    restores_same (λ (v : Vec Instance Global). map instance_view v.items) _ _ c.restore_each.result
    (repeated_instances f.rep (shape_view f.shape) c.args.level c.args.definition c.count_pieces-count.result (triplets_view c.args.lead) (strips_view c.args.strips.now) is c.if-not-is_present.ensures c.count_pieces-count.ensures)
    c.restore_each.ensures

pub restore_node-restore_slot-requires : goal.restore_node-restore_slot-requires
restore_node-restore_slot-requires t c =
    let all = c.args.fields.now.items in
    let here : c.fields.place < length all = omega (arith, ap length c.deref-field-items.ensures.value) in
    let deeper = shape_depth-field all c.fields.place c.field-item.result here (c.field-item.is ∙ ap (λ (fs : List Field). get_or fs c.fields.place c.field-item.result) c.deref-field-items.ensures.value) in
    (omega arith, (omega arith, omega arith))

pub restore_node-returns-in_err-restore_slot : goal.restore_node-returns-in_err-restore_slot
restore_node-returns-in_err-restore_slot t c =
    let all = c.args.fields.now.items in
    let k = c.fields.place in
    let f = c.field-item.result in
    let ss = c.args.strips.now in
    let from = c.fields.from in
    let n = c.front_length.result in
    let S = strips_view (drop from ss) in
    let m = restoring.assembled (fields_view all) 0 c.args.level c.args.definition (strips_view ss) in
    let here : k < length all = omega (arith, ap length c.deref-field-items.ensures.value) in
    let is : f ≡ get_or all k f = c.field-item.is ∙ ap (λ (fs : List Field). get_or fs k f) c.deref-field-items.ensures.value in
    let front = c.front_length.ensures in
    let lent : strips_view (take (from + n - from) (drop from c.deref.result.now)) ≡ front_at k S =
    front_lent ss from k n c.fields.invariant.within front.within front.front front.behind c.deref.result.now (ap strips_view c.deref.ensures.value ∙ c.in_ok-rests.ensures) in
    let g = restoring.assembled_field (rep_view f.rep) (shape_view f.shape) c.args.level c.args.definition in
    fails_from node_view slot_view m (g (strips_view (take (from + n - from) (drop from c.deref.result.now)))) _ c.in_err-restore_slot.field-0.0 c.from_residual-in_err-restore_slot.ensures.1 c.in_err-restore_slot.ensures
    (λ (e : g (strips_view (take (from + n - from) (drop from c.deref.result.now))) ≡ None).
    slot_fails all k f here is c.args.level c.args.definition S (map slot_view c.fields.slots.items) m c.fields.invariant.left (sym (ap g lent) ∙ e))

pub restore_node-fields-preserved : goal.restore_node-fields-preserved
restore_node-fields-preserved t c =
    let all = c.args.fields.now.items in
    let k = c.fields.place in
    let f = c.field-item.result in
    let ss = c.args.strips.now in
    let from = c.fields.from in
    let n = c.front_length.result in
    let S = strips_view (drop from ss) in
    let m = restoring.assembled (fields_view all) 0 c.args.level c.args.definition (strips_view ss) in
    let s = c.in_ok-restore_slot.field-0 in
    let here : k < length all = omega (arith, ap length c.deref-field-items.ensures.value) in
    let is : f ≡ get_or all k f = c.field-item.is ∙ ap (λ (fs : List Field). get_or fs k f) c.deref-field-items.ensures.value in
    let front = c.front_length.ensures in
    let lent : strips_view (take (from + n - from) (drop from c.deref.result.now)) ≡ front_at k S =
    front_lent ss from k n c.fields.invariant.within front.within front.front front.behind c.deref.result.now (ap strips_view c.deref.ensures.value ∙ c.in_ok-rests.ensures) in
    let later : strips_view (drop (from + n) ss) ≡ after_front k S = left_behind ss from k n c.fields.invariant.within front.within front.front front.behind in
    let g = restoring.assembled_field (rep_view f.rep) (shape_view f.shape) c.args.level c.args.definition in
    let pushed : map slot_view c.push.new.self.items ≡ map slot_view c.fields.slots.items ++ slot_view s ∷ [] = ap (map slot_view) c.in_ok-push.ensures.items ∙ map-append slot_view c.fields.slots.items (s ∷ []) in
    record {
      within = front_within ss from k n c.fields.invariant.within front.within front.front front.behind;
      left =
          slot_more all k f here is c.args.level c.args.definition S (map slot_view c.fields.slots.items) m c.fields.invariant.left (slot_view s) (sym (ap g lent) ∙ c.in_ok-restore_slot.ensures)
          ∙ ap₂ (λ (os : List (Option record_tree.Instances)) (T : List restoring.Strip). behind_slots os (restoring.assembled (fields_view (drop (k + 1) all)) (k + 1) c.args.level c.args.definition T)) (sym pushed) (sym later);
    }

pub restore_node-returns : goal.restore_node-returns
restore_node-returns t c =
    let all = c.args.fields.now.items in
    let S = strips_view (drop c.fields.from c.args.strips.now) in
    let m = restoring.assembled (fields_view all) 0 c.args.level c.args.definition (strips_view c.args.strips.now) in
    let end : length all ≤ c.fields.place = omega (arith, ap length c.deref-field-items.ensures.value) in
    slots_end all c.fields.place c.args.level c.args.definition S (map slot_view c.fields.slots.items) m end c.fields.invariant.left
    ∙ ap Some (sym (view-node _))
