use Rattle.std.proofs.Common.{◌≡◌, ℕ, ◌+◌, List, false, is_some, option_map, Ok, Vec, Global, Bor, drop, string_bytes, ap, sym, ◌∙◌, arith}
use Rattle.serde_json.specs.Find.{as_null, get_member}
use Rattle.serde_json.specs.View.{view, items_view, members_view}
use Rattle.serde_json.specs.declared.value.Value.{Value as Json}
use Rattle.dr_meaning.specs.JsonRecord as line
use Rattle.dr_nested.specs.Views.{fields_view, shape_view, instances_view, instance_view, slots_view}
use Rattle.dr_nested.specs.declared.record.Slot.{Slot}
use Rattle.dr_json.proofs.ReadingLemmas.{element_read, instances_pushed, slots_pushed, shape_valid, rest_valid, field_fault, field_read, elements_end, fields_end, fault_passes, read_field, read_found, gives_from, shape_depth-field}
use Rattle.dr_json.proofs.nodes.+reading.Goals as goal

pub elements_of-loop-item-preserved : goal.elements_of-loop-item-preserved
elements_of-loop-item-preserved t c =
    let items = c.args.items.now in
    let f = line.instance_of (shape_view c.args.shape.now) in
    let i = c.loop-item.item-index in
    let xs = c.loop-item.instances.items in
    let x = c.in_ok-instance_of.field-0 in
    let meant = line.each_element f (items_view items) in
    let not_null : is_some (as_null (view c.item-item.result)) ≡ false = cc in
    instances_pushed xs c.push.new.self.items x meant (line.each_element f (items_view (drop (i + 1) items))) c.in_ok-push.ensures.items
    (element_read f items i c.item-item.result (instances_view xs) meant c.loop-item-test.true c.item-item.is c.loop-item.invariant (instance_view x) not_null c.in_ok-instance_of.ensures)

pub elements_of-returns : goal.elements_of-returns
elements_of-returns t c =
    elements_end (line.instance_of (shape_view c.args.shape.now)) c.args.items.now c.loop-item.item-index (instances_view c.loop-item.instances.items) _ c.loop-item-test.false c.loop-item.invariant

pub slots_of-instances_of-requires : goal.slots_of-instances_of-requires
slots_of-instances_of-requires t c =
    let fields = c.args.fields.now in
    let f = c.field-item.result in
    let i = c.loop-field.field-index in
    let valid = shape_valid fields i f c.loop-field-test.true c.field-item.is c.loop-field.invariant.valid in
    let deeper = shape_depth-field fields i f c.loop-field-test.true c.field-item.is in
    (omega arith, valid)

pub slots_of-returns-in_err-instances : goal.slots_of-returns-in_err-instances
slots_of-returns-in_err-instances t c =
    let fields = c.args.fields.now in
    let ms = members_view c.args.object.now.entries in
    let f = c.field-item.result in
    let meant = line.slots_of (fields_view fields) ms in
    let met : line.given (get_member (string_bytes f.name) ms) ≡ option_map (λ (v : Bor Json). view v.now) c.present-found.result =
    ap line.given (ap (λ (n : List ℕ). get_member n ms) (sym c.as_str.ensures.value) ∙ sym c.member.ensures) ∙ sym c.present-found.ensures in
    let faulty = field_fault fields c.loop-field.field-index f c.loop-field-test.true c.field-item.is ms (slots_view c.loop-field.slots.items) meant c.loop-field.invariant.read in
    gives_from (λ (v : Vec Slot Global). slots_view v.items) meant _ c.in_err-instances.field-0.0 c.from_residual-in_err-instances.ensures.1
    (fault_passes meant _ _ (λ (e : line.RecordFault) r. faulty e (read_found f ms _ met ∙ r)) c.in_err-instances.ensures)

pub slots_of-loop-field-preserved : goal.slots_of-loop-field-preserved
slots_of-loop-field-preserved t c =
    let fields = c.args.fields.now in
    let ms = members_view c.args.object.now.entries in
    let f = c.field-item.result in
    let i = c.loop-field.field-index in
    let xs = c.in_ok-instances.instances in
    let meant = line.slots_of (fields_view fields) ms in
    let met : line.given (get_member (string_bytes f.name) ms) ≡ option_map (λ (v : Bor Json). view v.now) c.present-found.result =
    ap line.given (ap (λ (n : List ℕ). get_member n ms) (sym c.as_str.ensures.value) ∙ sym c.member.ensures) ∙ sym c.present-found.ensures in
    let read_here : read_field f ms ≡ Ok (instances_view xs.items) = read_found f ms _ met ∙ c.in_ok-instances.ensures in
    record {
      valid = rest_valid fields i f c.loop-field-test.true c.field-item.is c.loop-field.invariant.valid;
      read = slots_pushed c.loop-field.slots.items c.push.new.self.items xs meant (line.slots_of (fields_view (drop (i + 1) fields)) ms) c.in_ok-push.ensures.items
          (field_read fields i f c.loop-field-test.true c.field-item.is ms (slots_view c.loop-field.slots.items) meant c.loop-field.invariant.read (instances_view xs.items) read_here);
    }

pub slots_of-returns : goal.slots_of-returns
slots_of-returns t c =
    fields_end c.args.fields.now c.loop-field.field-index (members_view c.args.object.now.entries) (slots_view c.loop-field.slots.items) _ c.loop-field-test.false c.loop-field.invariant.read
