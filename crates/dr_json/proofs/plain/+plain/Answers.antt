use Rattle.std.proofs.Common.{◌≡◌, ℕ, ◌+◌, List, Option, Some, false, is_some, option_map, Bor, length, string_bytes, ap, sym, ◌∙◌, subst, arith}
use Rattle.std.specs.Int.{from_bool}
use Rattle.std.specs.declared.alloc.Global.{Global}
use Rattle.json.specs.Json as json
use Rattle.json.specs.Find.{is_null}
use Rattle.json.specs.Value.{value_view, items_view, members_view}
use Rattle.json.specs.declared.value.Value.{Value}
use Rattle.json.proofs.Trees.{view-Array, view-Object}
use Rattle.dr_meaning.specs.Schema as tree
use Rattle.dr_nested.specs.Views.{fields_view, shape_view, rep_view}
use Rattle.dr_nested.proofs.ViewLemmas.{view-group}
use Rattle.dr_json.specs.Raw.{near, present}
use Rattle.dr_json.specs.Plain.{PlainOne, PlainField}
use Rattle.dr_json.proofs.KeyLemmas.{some_of}
use Rattle.dr_json.proofs.ReadingLemmas.{shape_valid, shape_depth-field}
use Rattle.dr_json.proofs.PlainLemmas.{group_plain, only_required, only_optional, list_repeated, field_plain, fields_plain, element_plain, elements_plain}
use Rattle.dr_json.proofs.plain.+plain.Goals as goal

abbrev seen : Option (Bor (Value Global)) → Option json.Json
seen o = option_map (λ (v : Bor (Value Global)). value_view v.now) o

-- ---- the fields of a group

pub plain_node-plain_field-requires : goal.plain_node-plain_field-requires
plain_node-plain_field-requires t c =
    let fields = c.args.fields.now in
    let f = c.field-item.result in
    let i = c.fields.field-index in
    let valid = shape_valid fields i f c.fields-test.true c.field-item.is c.fields.invariant.valid in
    let deeper = shape_depth-field fields i f c.fields-test.true c.field-item.is in
    (omega arith, valid)

pub plain_node-fields-preserved : goal.plain_node-fields-preserved
plain_node-fields-preserved t c =
    let fields = c.args.fields.now in
    let ms = members_view c.args.members.now in
    let f = c.field-item.result in
    let i = c.fields.field-index in
    let hint = c.fields.next in
    let found : seen c.next_member-found.result ≡ near hint (string_bytes f.name) ms = c.next_member-found.ensures ∙ ap (λ (n : List ℕ). near hint n ms) c.as_str.ensures.value in
    let met : seen c.present.result ≡ present (near hint (string_bytes f.name) ms) = c.present.ensures ∙ ap present found in
    let part = c.in_ok-plain_field.field-0 in
    let plain = subst (λ (o : Option json.Json). PlainField (rep_view f.rep) (shape_view f.shape) o (Some part)) met c.in_ok-plain_field.ensures in
    let has_key : c.from.result ≡ from_bool (is_some (near hint (string_bytes f.name) ms)) =
    c.from.ensures ∙ ap from_bool (c.is_some.ensures ∙ some_of (λ (v : Bor (Value Global)). value_view v.now) c.next_member-found.result ∙ ap is_some found) in
    field_plain fields i f c.fields-test.true c.field-item.is ms c.fields.size c.fields.count c.fields.invariant hint part c.plus-size.result (c.fields.count + c.from.result)
    plain.0 plain.1 plain.2 c.plus-size.ensures.instances c.plus-size.ensures.text_bytes (ap (λ (n : ℕ). c.fields.count + n) has_key)

pub plain_node-returns-then-count-members : goal.plain_node-returns-then-count-members
plain_node-returns-then-count-members t c =
    let many : c.fields.count ≡ length c.args.members.now = omega arith in
    fields_plain c.args.fields.now c.fields.field-index c.args.members.now c.fields.size c.fields.count c.fields-test.false c.requires c.fields.invariant many

-- ---- the instances of a field

pub plain_field-returns-in-Required-Some : goal.plain_field-returns-in-Required-Some
plain_field-returns-in-Required-Some t c =
    let s = shape_view c.args.field.now.shape in
    let r = c.plain_only.result in
    let rep : rep_view c.args.field.now.rep ≡ tree.required = ap rep_view c.in-Required-Some.is-0 in
    let there : seen c.args.found ≡ Some (value_view c.in-Required-Some.value.now) = ap seen c.in-Required-Some.is-1 in
    subst (λ (x : tree.Repetition). PlainField x s (seen c.args.found) r) (sym rep) (subst (λ (o : Option json.Json). PlainField tree.required s o r) (sym there) (only_required s (value_view c.in-Required-Some.value.now) r c.plain_only.ensures))

pub plain_field-returns-in-Optional-Some : goal.plain_field-returns-in-Optional-Some
plain_field-returns-in-Optional-Some t c =
    let s = shape_view c.args.field.now.shape in
    let r = c.plain_only-in-Optional-Some.result in
    let rep : rep_view c.args.field.now.rep ≡ tree.optional = ap rep_view c.in-Optional-Some.is-0 in
    let there : seen c.args.found ≡ Some (value_view c.in-Optional-Some.value.now) = ap seen c.in-Optional-Some.is-1 in
    subst (λ (x : tree.Repetition). PlainField x s (seen c.args.found) r) (sym rep) (subst (λ (o : Option json.Json). PlainField tree.optional s o r) (sym there) (only_optional s (value_view c.in-Optional-Some.value.now) r c.plain_only-in-Optional-Some.ensures))

pub plain_field-returns-in-Array : goal.plain_field-returns-in-Array
plain_field-returns-in-Array t c =
    let s = shape_view c.args.field.now.shape in
    let r = c.plain_elements.result in
    let rep : rep_view c.args.field.now.rep ≡ tree.repeated = ap rep_view c.in-Repeated-Some.is-0 in
    let list : value_view c.in-Repeated-Some.value.now ≡ json.array (items_view c.deref.result.now) =
    ap value_view c.in-Array.is ∙ view-Array c.in-Array.items ∙ ap (λ (vs : List (Value Global)). json.array (items_view vs)) (sym c.deref.ensures.value) in
    let there : seen c.args.found ≡ Some (json.array (items_view c.deref.result.now)) = ap seen c.in-Repeated-Some.is-1 ∙ ap (λ (j : json.Json). Some j) list in
    subst (λ (x : tree.Repetition). PlainField x s (seen c.args.found) r) (sym rep) (subst (λ (o : Option json.Json). PlainField tree.repeated s o r) (sym there) (list_repeated s (items_view c.deref.result.now) r c.plain_elements.ensures))

-- ---- one instance

pub plain_instance-returns-in-Object : goal.plain_instance-returns-in-Object
plain_instance-returns-in-Object t c =
    let r = c.plain_node.result in
    let shape : shape_view c.args.shape.now ≡ tree.group (fields_view c.deref.result.now) =
    ap shape_view c.in-Group.is ∙ view-group _ ∙ ap (λ fs. tree.group (fields_view fs)) (sym c.deref.ensures.value) in
    let value : value_view c.args.value.now ≡ json.object (members_view c.deref-in-Object.result.now) =
    ap value_view c.in-Object.is ∙ view-Object c.in-Object.members ∙ ap (λ (ms : List (Bor (List ℕ) × Value Global)). json.object (members_view ms)) (sym c.deref-in-Object.ensures.value) in
    subst (λ (s : tree.Shape). PlainOne s (value_view c.args.value.now) r) (sym shape)
    (subst (λ (j : json.Json). PlainOne (tree.group (fields_view c.deref.result.now)) j r) (sym value) (group_plain (fields_view c.deref.result.now) (members_view c.deref-in-Object.result.now) r c.plain_node.ensures))

-- ---- the elements of a list

pub plain_elements-items-preserved : goal.plain_elements-items-preserved
plain_elements-items-preserved t c =
    let v = c.item-item.result in
    let not_null : is_null (value_view v) ≡ false = cc in
    element_plain (shape_view c.args.shape.now) c.args.items.now c.items.item-index v c.items-test.true c.item-item.is c.items.size c.items.invariant
    c.in_ok-plain_instance.field-0 c.plus_instance.result c.plus-size.result not_null c.in_ok-plain_instance.ensures
    c.plus_instance.ensures.instances c.plus_instance.ensures.text_bytes c.plus-size.ensures.instances c.plus-size.ensures.text_bytes

pub plain_elements-returns : goal.plain_elements-returns
plain_elements-returns t c = elements_plain (shape_view c.args.shape.now) c.args.items.now c.items.item-index c.items.size c.items-test.false c.items.invariant
