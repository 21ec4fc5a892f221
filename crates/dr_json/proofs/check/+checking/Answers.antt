use Rattle.std.proofs.Common.{◌≡◌, ◌≢◌, ◌==◌, ℕ, ◌+◌, List, true, false, is_some, option_map, Ok, Bor, length, string_bytes, ap, sym, ◌∙◌, subst, arith, eq-eqb}
use Rattle.std.specs.Int.{from_bool}
use Rattle.std.proofs.lemmas.Bool.Decides.{nat_tests}
use Rattle.serde_json.specs.Find.{as_null, get_member}
use Rattle.serde_json.specs.View.{view, members_view}
use Rattle.serde_json.specs.declared.value.Value.{Value as Json}
use Rattle.dr_meaning.specs.JsonRecord as line
use Rattle.dr_meaning.specs.JsonRecord.{are_known, each_element, instance_of}
use Rattle.dr_meaning.specs.Schema as tree
use Rattle.dr_meaning.specs.Schema.{field_names}
use Rattle.dr_nested.specs.Views.{fields_view, shape_view, rep_view}
use Rattle.dr_nested.proofs.ViewLemmas.{view-group}
use Rattle.dr_json.specs.Size.{instances_size}
use Rattle.dr_json.specs.Held.{field_held, instance_held}
use Rattle.dr_json.specs.Checks.{ChecksOne, given_count}
use Rattle.dr_json.proofs.KeyLemmas.{given_known, some_of}
use Rattle.dr_json.proofs.ReadingLemmas.{shape_valid, read_field, read_found, shape_depth-field}
use Rattle.dr_json.proofs.CheckLemmas.{held_field, count_within, checks_from, checks_fields_from, node_known, node_unknown, group_checked, only_checked, field_fails, field_checked, fields_checked, null_fails, element_fails, element_checked, elements_checked}
use Rattle.dr_json.proofs.check.+checking.Goals as goal

-- ---- the fields of a group

pub check_fields-fields-init : goal.check_fields-fields-init
check_fields-fields-init t c = record {
  valid = c.requires;
  reads = λ k. k;
  fails = λ e k. k;
  instances = omega arith;
  text_bytes = omega arith;
  instances_fit = omega arith;
  bytes_fit = omega arith;
  counted = omega arith;
  within = omega arith;
}

pub check_fields-overflow_add-count : goal.check_fields-overflow_add-count
check_fields-overflow_add-count t c =
    let at_most = count_within c.is_some.result c.fields.count c.fields.field-index c.fields.invariant.within in
    omega (arith, at_most, c.from.ensures)

pub check_fields-check_field-requires : goal.check_fields-check_field-requires
check_fields-check_field-requires t c =
    let fields = c.args.fields.now in
    let f = c.field-item.result in
    let i = c.fields.field-index in
    let valid = shape_valid fields i f c.fields-test.true c.field-item.is c.fields.invariant.valid in
    let deeper = shape_depth-field fields i f c.fields-test.true c.field-item.is in
    (omega arith, valid)

pub check_fields-returns-in_err-check_field : goal.check_fields-returns-in_err-check_field
check_fields-returns-in_err-check_field t c =
    let fields = c.args.fields.now in
    let ms = members_view c.args.object.now.entries in
    let f = c.field-item.result in
    let i = c.fields.field-index in
    let met : line.given (get_member (string_bytes f.name) ms) ≡ option_map (λ (v : Bor Json). view v.now) c.present.result =
    ap line.given (ap (λ (n : List ℕ). get_member n ms) (sym c.as_str.ensures.value) ∙ sym c.member-found.ensures) ∙ sym c.present.ensures in
    checks_fields_from _ _ _ _ _ c.from_residual.ensures.1
    (field_fails fields i f c.fields-test.true c.field-item.is ms c.fields.size c.fields.count c.fields.invariant _ (read_found f ms _ met ∙ c.in_err-check_field.ensures))

pub check_fields-fields-preserved : goal.check_fields-fields-preserved
check_fields-fields-preserved t c =
    let fields = c.args.fields.now in
    let ms = members_view c.args.object.now.entries in
    let f = c.field-item.result in
    let i = c.fields.field-index in
    let looked_up : option_map (λ (v : Bor Json). view v.now) c.member-found.result ≡ get_member (string_bytes f.name) ms = c.member-found.ensures ∙ ap (λ (n : List ℕ). get_member n ms) c.as_str.ensures.value in
    let met : line.given (get_member (string_bytes f.name) ms) ≡ option_map (λ (v : Bor Json). view v.now) c.present.result = ap line.given (sym looked_up) ∙ sym c.present.ensures in
    let held_here : held_field f ms ≡ field_held (rep_view f.rep) (instance_held (shape_view f.shape)) (option_map (λ (v : Bor Json). view v.now) c.present.result) =
    ap (field_held (rep_view f.rep) (instance_held (shape_view f.shape))) met in
    let part = c.in_ok-check_field.field-0 in
    let read_here : read_field f ms ≡ Ok (held_field f ms) = read_found f ms _ met ∙ c.in_ok-check_field.ensures.0 ∙ ap Ok (sym held_here) in
    let part_size : part ≡ instances_size (held_field f ms) = c.in_ok-check_field.ensures.1 ∙ ap instances_size (sym held_here) in
    let has_key : c.from.result ≡ from_bool (is_some (get_member (string_bytes f.name) ms)) =
    c.from.ensures ∙ ap from_bool (c.is_some.ensures ∙ some_of (λ (v : Bor Json). view v.now) c.member-found.result ∙ ap is_some looked_up) in
    field_checked fields i f c.fields-test.true c.field-item.is ms c.fields.size c.fields.count c.fields.invariant part c.plus-size.result (c.fields.count + c.from.result)
    read_here part_size c.plus-size.ensures.instances c.plus-size.ensures.text_bytes (ap (λ (n : ℕ). c.fields.count + n) has_key)

pub check_fields-returns : goal.check_fields-returns
check_fields-returns t c =
    fields_checked c.args.fields.now c.fields.field-index (members_view c.args.object.now.entries) c.fields.size c.fields.count c.fields-test.false c.fields.invariant

-- ---- an object

not_as_many : (m n i j : ℕ) → m ≡ i → j ≡ n → i ≢ j → (m == n) ≡ false
not_as_many m n i j p q h = grind (arith, nat_tests)

pub check_node-returns-in-Ok : goal.check_node-returns-in-Ok
check_node-returns-in-Ok t c =
    let fields = c.args.fields.now in
    let entries = c.args.object.now.entries in
    let as_many : (given_count (members_view entries) fields == length entries) ≡ true = eq-eqb _ _ (sym c.in-Ok.ensures.2 ∙ c.if-given-len.true ∙ c.len.ensures.len) in
    let known : are_known (field_names (fields_view fields)) (members_view entries) ≡ true = sym (given_known fields entries c.requires c.len.ensures.ordered) ∙ as_many in
    (node_known (fields_view fields) (members_view entries) _ known c.in-Ok.ensures.0, c.in-Ok.ensures.1)

pub check_node-returns-in-Ok-2 : goal.check_node-returns-in-Ok-2
check_node-returns-in-Ok-2 t c =
    let fields = c.args.fields.now in
    let entries = c.args.object.now.entries in
    let fewer = not_as_many _ _ _ _ (sym c.in-Ok.ensures.2) c.len.ensures.len c.if-given-len.false in
    node_unknown (fields_view fields) (members_view entries) (sym (given_known fields entries c.requires c.len.ensures.ordered) ∙ fewer)

-- ---- one instance

pub check_only-returns : goal.check_only-returns
check_only-returns t c =
    let inside = c.in_ok-inside.ensures in
    only_checked _ _ inside.0 c.in_ok-inside.inside c.plus_instance.result inside.1 inside.2 inside.3 c.plus_instance.ensures.instances c.plus_instance.ensures.text_bytes

pub check_instance-returns-in-Some : goal.check_instance-returns-in-Some
check_instance-returns-in-Some t c =
    let d = view c.args.value.now in
    let r = c.check_node.result in
    let seen : shape_view c.args.shape.now ≡ tree.group (fields_view c.deref.result.now) =
    ap shape_view c.in-Group.is ∙ view-group _ ∙ ap (λ fs. tree.group (fields_view fs)) (sym c.deref.ensures.value) in
    subst (λ (s : tree.Shape). ChecksOne (instance_of s d) (instance_held s d) r) (sym seen)
    (group_checked (fields_view c.deref.result.now) d (members_view c.in-Some.object.now.entries) r (sym c.in-Some.ensures) c.check_node.ensures)

-- ---- the elements of a list

pub check_elements-items-init : goal.check_elements-items-init
check_elements-items-init t c = record {
  reads = λ k. k;
  fails = λ e k. k;
  instances = omega arith;
  text_bytes = omega arith;
  instances_fit = omega arith;
  bytes_fit = omega arith;
}

pub check_elements-returns-then-is_null : goal.check_elements-returns-then-is_null
check_elements-returns-then-is_null t c =
    let d = c.item-item.result in
    let null : is_some (as_null (view d)) ≡ true = cc in
    null_fails (shape_view c.args.shape.now) c.args.items.now c.items.item-index d c.items-test.true c.item-item.is c.items.size c.items.invariant null

pub check_elements-returns-in_err-check_instance : goal.check_elements-returns-in_err-check_instance
check_elements-returns-in_err-check_instance t c =
    let d = c.item-item.result in
    let not_null : is_some (as_null (view d)) ≡ false = cc in
    checks_from instances_size _ _ _ _ c.from_residual.ensures.1
    (element_fails (shape_view c.args.shape.now) c.args.items.now c.items.item-index d c.items-test.true c.item-item.is c.items.size c.items.invariant _ not_null c.in_err-check_instance.ensures)

pub check_elements-items-preserved : goal.check_elements-items-preserved
check_elements-items-preserved t c =
    let d = c.item-item.result in
    let inside = c.in_ok-check_instance.ensures in
    let not_null : is_some (as_null (view d)) ≡ false = cc in
    element_checked (shape_view c.args.shape.now) c.args.items.now c.items.item-index d c.items-test.true c.item-item.is c.items.size c.items.invariant
    inside.0 c.in_ok-check_instance.field-0 c.plus_instance.result c.plus-size.result not_null inside.1 inside.2 inside.3
    c.plus_instance.ensures.instances c.plus_instance.ensures.text_bytes c.plus-size.ensures.instances c.plus-size.ensures.text_bytes

pub check_elements-returns : goal.check_elements-returns
check_elements-returns t c = elements_checked (shape_view c.args.shape.now) c.args.items.now c.items.item-index c.items.size c.items-test.false c.items.invariant
