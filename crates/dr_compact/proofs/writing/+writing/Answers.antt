use Rattle.std.proofs.Common.{◌≡◌, ◌∷◌, ap₂, ◌<◌, ◌≤◌, ◌∙◌, ◌++◌, [], length, ap, sym, subst, refl, arith, to_z, of_z}
use Rattle.std.specs.Prelude.{min, pos}
use mir.Syntax.{w16, w64}
use Rattle.std.proofs.lemmas.Int.{to_z-of_z}
use Rattle.std.proofs.lemmas.Result.{err_from_is_err_and}
use Rattle.dr_formats.specs.Compact as compact
use Rattle.dr_formats.specs.Compact.{Item, in_field, item_bytes, signed_bytes, struct_bytes, pairs_bytes, header_bytes}
use Rattle.dr_formats.specs.Varint.{varint_bytes}
use Rattle.dr_compact.specs.Views.{values_view, map_view, tree_view, item_view, truth_type_view, fields_view, pairs_from}
use Rattle.dr_compact.specs.Writes.{values_bytes}
use Rattle.dr_compact.specs.declared.tree.Values.TheVariants as lists
use Rattle.dr_compact.proofs.ViewLemmas.{view-truths, view-bytes, view-i16s, view-i32s, view-i64s, view-doubles, view-binaries, view-lists, view-sets, view-maps, view-structs, view-list, view-set, view-struct, view-pair, view-tree, lent_binary, as_list, as_set, as_struct}
use Rattle.dr_compact.proofs.WriteLemmas.{Partly, begun, none_written, more_written, all_written, stopped, last_written, other_bytes, element_at, truth_bytes, list_bytes, set_bytes, struct_is, next_value, no_value_left, empty_map_bytes, map_begun, key_written, no_pair_left, field_header_written, no_field_left}
use Rattle.dr_compact.proofs.writing.+writing.Goals as goal

-- ---- the value at a place

pub write_element-returns-in-Truths : goal.write_element-returns-in-Truths
write_element-returns-in-Truths t c =
    let a = c.index.result.now in
    other_bytes _ _ c.args.out.now.items c.append.new.out.items c.append.result (truth_bytes c.index.result.now c.from.result c.from.ensures ∙ element_at (lists.Truths c.in-Truths.field-0) (truth_type_view c.in-Truths.field-0) compact.truth_item (view-truths c.in-Truths.field-0) c.args.values.now c.in-Truths.truths c.args.place a c.in-Truths.is c.requires c.index.ensures) c.append.ensures

pub write_element-returns-in-Bytes : goal.write_element-returns-in-Bytes
write_element-returns-in-Bytes t c =
    let a = c.index-in-Bytes.result.now in
    other_bytes _ _ c.args.out.now.items c.append-in-Bytes.new.out.items c.append-in-Bytes.result (element_at lists.Bytes compact.byte_type compact.byte_item view-bytes c.args.values.now c.in-Bytes.bytes c.args.place a c.in-Bytes.is c.requires c.index-in-Bytes.ensures) c.append-in-Bytes.ensures

pub write_element-returns-in-I16s : goal.write_element-returns-in-I16s
write_element-returns-in-I16s t c =
    let a = c.index-in-I16s.result.now in
    let same : signed_bytes (to_z w64 (of_z w64 a)) ≡ signed_bytes a = ap signed_bytes (grind (arith, to_z-of_z)) in
    other_bytes _ _ c.args.out.now.items c.append_signed.new.out.items c.append_signed.result (same ∙ element_at lists.I16s compact.i16_type compact.i16_item view-i16s c.args.values.now c.in-I16s.numbers c.args.place a c.in-I16s.is c.requires c.index-in-I16s.ensures) c.append_signed.ensures

pub write_element-returns-in-I32s : goal.write_element-returns-in-I32s
write_element-returns-in-I32s t c =
    let a = c.index-in-I32s.result.now in
    let same : signed_bytes (to_z w64 (of_z w64 a)) ≡ signed_bytes a = ap signed_bytes (grind (arith, to_z-of_z)) in
    other_bytes _ _ c.args.out.now.items c.append_signed-in-I32s.new.out.items c.append_signed-in-I32s.result (same ∙ element_at lists.I32s compact.i32_type compact.i32_item view-i32s c.args.values.now c.in-I32s.numbers c.args.place a c.in-I32s.is c.requires c.index-in-I32s.ensures) c.append_signed-in-I32s.ensures

pub write_element-returns-in-I64s : goal.write_element-returns-in-I64s
write_element-returns-in-I64s t c =
    let a = c.index-in-I64s.result.now in
    let same : signed_bytes (to_z w64 (of_z w64 a)) ≡ signed_bytes a = ap signed_bytes (grind (arith, to_z-of_z)) in
    other_bytes _ _ c.args.out.now.items c.append_signed-in-I64s.new.out.items c.append_signed-in-I64s.result (same ∙ element_at lists.I64s compact.i64_type compact.i64_item view-i64s c.args.values.now c.in-I64s.numbers c.args.place a c.in-I64s.is c.requires c.index-in-I64s.ensures) c.append_signed-in-I64s.ensures

pub write_element-returns-in-Doubles : goal.write_element-returns-in-Doubles
write_element-returns-in-Doubles t c =
    let a = c.index-in-Doubles.result.now in
    other_bytes _ _ c.args.out.now.items c.append-in-Doubles.new.out.items c.append-in-Doubles.result (element_at lists.Doubles compact.double_type compact.double_item view-doubles c.args.values.now c.in-Doubles.doubles c.args.place a c.in-Doubles.is c.requires c.index-in-Doubles.ensures) c.append-in-Doubles.ensures

pub write_element-returns-in-Binaries : goal.write_element-returns-in-Binaries
write_element-returns-in-Binaries t c =
    let a = c.index-in-Binaries.result.now in
    other_bytes _ _ c.args.out.now.items c.append_binary.new.out.items c.append_binary.result (element_at lists.Binaries compact.binary_type lent_binary view-binaries c.args.values.now c.in-Binaries.binaries c.args.place a c.in-Binaries.is c.requires c.index-in-Binaries.ensures) c.append_binary.ensures

pub write_element-returns-in-Lists : goal.write_element-returns-in-Lists
write_element-returns-in-Lists t c =
    let a = c.index-in-Lists.result.now in
    other_bytes _ _ c.args.out.now.items c.write_values.new.out.items c.write_values.result (list_bytes (values_view a) ∙ element_at lists.Lists compact.list_type as_list view-lists c.args.values.now c.in-Lists.lists c.args.place a c.in-Lists.is c.requires c.index-in-Lists.ensures) c.write_values.ensures

pub write_element-returns-in-Sets : goal.write_element-returns-in-Sets
write_element-returns-in-Sets t c =
    let a = c.index-in-Sets.result.now in
    other_bytes _ _ c.args.out.now.items c.write_values-in-Sets.new.out.items c.write_values-in-Sets.result (set_bytes (values_view a) ∙ element_at lists.Sets compact.set_type as_set view-sets c.args.values.now c.in-Sets.sets c.args.place a c.in-Sets.is c.requires c.index-in-Sets.ensures) c.write_values-in-Sets.ensures

pub write_element-returns-in-Maps : goal.write_element-returns-in-Maps
write_element-returns-in-Maps t c =
    let a = c.index-in-Maps.result.now in
    other_bytes _ _ c.args.out.now.items c.write_map.new.out.items c.write_map.result (element_at lists.Maps compact.map_type map_view view-maps c.args.values.now c.in-Maps.maps c.args.place a c.in-Maps.is c.requires c.index-in-Maps.ensures) c.write_map.ensures

pub write_element-returns-in-Structs : goal.write_element-returns-in-Structs
write_element-returns-in-Structs t c =
    let a = c.index-in-Structs.result.now in
    other_bytes _ _ c.args.out.now.items c.write_tree.new.out.items c.write_tree.result (struct_is (tree_view a) ∙ element_at lists.Structs compact.struct_type as_struct view-structs c.args.values.now c.in-Structs.structs c.args.place a c.in-Structs.is c.requires c.index-in-Structs.ensures) c.write_tree.ensures

-- ---- the value of a field

pub write_field_item-returns-in-List : goal.write_field_item-returns-in-List
write_field_item-returns-in-List t c =
    let here : item_view c.args.item.now ≡ _ = ap item_view c.in-List.is ∙ view-list c.in-List.values in
    other_bytes _ _ c.args.out.now.items c.write_values.new.out.items c.write_values.result (list_bytes (values_view c.in-List.values) ∙ sym (ap (λ (x : Item). in_field x (item_bytes x)) here)) c.write_values.ensures

pub write_field_item-returns-in-Set : goal.write_field_item-returns-in-Set
write_field_item-returns-in-Set t c =
    let here : item_view c.args.item.now ≡ _ = ap item_view c.in-Set.is ∙ view-set c.in-Set.values in
    other_bytes _ _ c.args.out.now.items c.write_values-in-Set.new.out.items c.write_values-in-Set.result (set_bytes (values_view c.in-Set.values) ∙ sym (ap (λ (x : Item). in_field x (item_bytes x)) here)) c.write_values-in-Set.ensures

pub write_field_item-returns-in-Struct : goal.write_field_item-returns-in-Struct
write_field_item-returns-in-Struct t c =
    let here : item_view c.args.item.now ≡ _ = ap item_view c.in-Struct.is ∙ view-struct c.in-Struct.tree in
    other_bytes _ _ c.args.out.now.items c.write_tree.new.out.items c.write_tree.result (struct_is (tree_view c.in-Struct.tree) ∙ sym (ap (λ (x : Item). in_field x (item_bytes x)) here)) c.write_tree.ensures

-- ---- the values of a list or set

pub write_values-elements-init : goal.write_values-elements-init
write_values-elements-init t c =
    let v = values_view c.args.values.now in
    let header = c.in_ok-append_list_header.ensures ∙ ap (λ b. c.args.out.now.items ++ b) (ap₂ compact.list_header_bytes c.count_of-count.ensures c.element_of.ensures) in
    begun c.args.out.now.items (values_bytes v) _ _ c.append_list_header.new.out.items refl header

pub write_values-returns-in_err-write_element : goal.write_values-returns-in_err-write_element
write_values-returns-in_err-write_element t c =
    let p = err_from_is_err_and c.from_residual-in_err-write_element.result c.from_residual-in_err-write_element.ensures.1 in
    rw p.1 (stopped c.args.out.now.items (values_bytes (values_view c.args.values.now)) _ c.elements.out.items c.write_element.new.out.items c.elements.invariant c.in_err-write_element.ensures)

pub write_values-elements-preserved : goal.write_values-elements-preserved
write_values-elements-preserved t c =
    let vs = (values_view c.args.values.now).values in
    let l : c.elements.index < length vs = omega (arith, c.elements-test.true, c.count_of-count.ensures) in
    more_written c.args.out.now.items (values_bytes (values_view c.args.values.now)) _ _ c.elements.out.items c.write_element.new.out.items (subst (λ r. Partly c.args.out.now.items (values_bytes (values_view c.args.values.now)) r c.elements.out.items) (next_value vs c.elements.index l) c.elements.invariant) c.in_ok-write_element.ensures

pub write_values-returns : goal.write_values-returns
write_values-returns t c =
    let vs = (values_view c.args.values.now).values in
    let end : length vs ≤ c.elements.index = omega (arith, c.elements-test.false, c.count_of-count.ensures) in
    all_written c.args.out.now.items (values_bytes (values_view c.args.values.now)) _ c.elements.out.items c.elements.invariant (no_value_left vs c.elements.index end)

-- ---- the pairs of a map

pub write_map-returns-then-count-eq0 : goal.write_map-returns-then-count-eq0
write_map-returns-then-count-eq0 t c =
    let ks = values_view c.args.map.now.keys in
    let vs = values_view c.args.map.now.values in
    let n : c.min-count.result ≡ min (length ks.values) (length vs.values) = c.min-count.ensures ∙ ap₂ min c.count_of.ensures c.count_of-2.ensures in
    let none = empty_map_bytes ks vs (sym n ∙ c.if-count-eq0.true) in
    c.in_ok-append_number.ensures ∙ ap (λ b. c.args.out.now.items ++ b) (ap varint_bytes c.if-count-eq0.true ∙ sym (ap item_bytes (view-pair c.args.map.now) ∙ none))

pub write_map-pairs-init : goal.write_map-pairs-init
write_map-pairs-init t c =
    let ks = values_view c.args.map.now.keys in
    let vs = values_view c.args.map.now.values in
    let n : c.min-count.result ≡ min (length ks.values) (length vs.values) = c.min-count.ensures ∙ ap₂ min c.count_of.ensures c.count_of-2.ensures in
    subst (λ all. Partly c.args.out.now.items all (pairs_bytes (pairs_from ks.values vs.values)) c.append.new.out.items) (sym (ap item_bytes (view-pair c.args.map.now)))
    (map_begun c.args.out.now.items c.append_number.new.out.items c.append.new.out.items ks vs c.min-count.result c.number.result c.number-2.result n c.if-count-eq0.false (c.number.ensures ∙ ap compact.type_number c.element_of.ensures) (c.number-2.ensures ∙ ap compact.type_number c.element_of-2.ensures) c.in_ok-append_number.ensures c.in_ok-append.ensures)

pub write_map-returns-in_err-write_element : goal.write_map-returns-in_err-write_element
write_map-returns-in_err-write_element t c =
    let p = err_from_is_err_and c.from_residual-in_err-write_element.result c.from_residual-in_err-write_element.ensures.1 in
    rw p.1 (stopped c.args.out.now.items (item_bytes (map_view c.args.map.now)) _ c.pairs.out.items c.write_element.new.out.items c.pairs.invariant c.in_err-write_element.ensures)

pub write_map-returns-in_err-write_element-2 : goal.write_map-returns-in_err-write_element-2
write_map-returns-in_err-write_element-2 t c =
    let p = err_from_is_err_and c.from_residual-in_err-write_element-2.result c.from_residual-in_err-write_element-2.ensures.1 in
    let ks = values_view c.args.map.now.keys in
    let vs = values_view c.args.map.now.values in
    let n : c.min-count.result ≡ min (length ks.values) (length vs.values) = c.min-count.ensures ∙ ap₂ min c.count_of.ensures c.count_of-2.ensures in
    let key = key_written c.args.out.now.items (item_bytes (map_view c.args.map.now)) c.pairs.out.items c.write_element.new.out.items ks.values vs.values c.pairs.index c.min-count.result c.pairs-test.true n c.pairs.invariant c.in_ok-write_element.ensures in
    rw p.1 (stopped c.args.out.now.items (item_bytes (map_view c.args.map.now)) _ c.write_element.new.out.items c.write_element-in-pairs.new.out.items key c.in_err-write_element-2.ensures)

pub write_map-pairs-preserved : goal.write_map-pairs-preserved
write_map-pairs-preserved t c =
    let ks = values_view c.args.map.now.keys in
    let vs = values_view c.args.map.now.values in
    let n : c.min-count.result ≡ min (length ks.values) (length vs.values) = c.min-count.ensures ∙ ap₂ min c.count_of.ensures c.count_of-2.ensures in
    let key = key_written c.args.out.now.items (item_bytes (map_view c.args.map.now)) c.pairs.out.items c.write_element.new.out.items ks.values vs.values c.pairs.index c.min-count.result c.pairs-test.true n c.pairs.invariant c.in_ok-write_element.ensures in
    more_written c.args.out.now.items (item_bytes (map_view c.args.map.now)) _ _ c.write_element.new.out.items c.write_element-in-pairs.new.out.items key c.in_ok-write_element-2.ensures

pub write_map-returns : goal.write_map-returns
write_map-returns t c =
    let ks = values_view c.args.map.now.keys in
    let vs = values_view c.args.map.now.values in
    let n : c.min-count.result ≡ min (length ks.values) (length vs.values) = c.min-count.ensures ∙ ap₂ min c.count_of.ensures c.count_of-2.ensures in
    let end : min (length ks.values) (length vs.values) ≤ c.pairs.index = omega (arith, c.pairs-test.false, n) in
    all_written c.args.out.now.items (item_bytes (map_view c.args.map.now)) _ c.pairs.out.items c.pairs.invariant (no_pair_left ks.values vs.values c.pairs.index end)

-- ---- the fields of a struct

pub write_tree-fields-init : goal.write_tree-fields-init
write_tree-fields-init t c =
    let here = struct_is (tree_view c.args.tree.now) ∙ ap (compact.fields_bytes (pos 0)) (view-tree c.args.tree.now ∙ ap fields_view (sym c.deref-field-items.ensures.value)) in
    subst (λ r. Partly c.args.out.now.items (struct_bytes (tree_view c.args.tree.now)) r c.args.out.now.items) here (none_written c.args.out.now.items (struct_bytes (tree_view c.args.tree.now)))

pub write_tree-returns-in_err-append_field_header : goal.write_tree-returns-in_err-append_field_header
write_tree-returns-in_err-append_field_header t c =
    let p = err_from_is_err_and c.from_residual.result c.from_residual.ensures.1 in
    rw p.1 (stopped c.args.out.now.items (struct_bytes (tree_view c.args.tree.now)) _ c.fields.out.items c.append_field_header.new.out.items c.fields.invariant c.in_err-append_field_header.ensures)

pub write_tree-returns-in_err-write_field_item : goal.write_tree-returns-in_err-write_field_item
write_tree-returns-in_err-write_field_item t c =
    let p = err_from_is_err_and c.from_residual-in_err-write_field_item.result c.from_residual-in_err-write_field_item.ensures.1 in
    let f = c.field-item.result in
    let same : to_z w16 (of_z w16 f.id) ≡ f.id = grind (arith, to_z-of_z) in
    let header = c.in_ok-append_field_header.ensures ∙ ap₂ (λ z t. c.fields.out.items ++ header_bytes (to_z w16 c.fields.last-bits) z t) same c.type_of_item.ensures in
    rw p.1 (stopped c.args.out.now.items (struct_bytes (tree_view c.args.tree.now)) _ c.append_field_header.new.out.items c.write_field_item.new.out.items (field_header_written c.args.out.now.items (struct_bytes (tree_view c.args.tree.now)) c.fields.out.items c.append_field_header.new.out.items _ f.id c.deref-field-items.result.now c.fields.field-index f c.fields-test.true c.field-item.is c.fields.invariant header) c.in_err-write_field_item.ensures)

pub write_tree-fields-preserved : goal.write_tree-fields-preserved
write_tree-fields-preserved t c =
    let f = c.field-item.result in
    let same : to_z w16 (of_z w16 f.id) ≡ f.id = grind (arith, to_z-of_z) in
    let header = c.in_ok-append_field_header.ensures ∙ ap₂ (λ z t. c.fields.out.items ++ header_bytes (to_z w16 c.fields.last-bits) z t) same c.type_of_item.ensures in
    let begun_field = field_header_written c.args.out.now.items (struct_bytes (tree_view c.args.tree.now)) c.fields.out.items c.append_field_header.new.out.items _ f.id c.deref-field-items.result.now c.fields.field-index f c.fields-test.true c.field-item.is c.fields.invariant header in
    rw same (more_written c.args.out.now.items (struct_bytes (tree_view c.args.tree.now)) _ _ c.append_field_header.new.out.items c.write_field_item.new.out.items begun_field c.in_ok-write_field_item.ensures)

pub write_tree-returns : goal.write_tree-returns
write_tree-returns t c =
    let fs = c.deref-field-items.result.now in
    let rest = no_field_left _ fs c.fields.field-index c.fields-test.false in
    last_written c.args.out.now.items (struct_bytes (tree_view c.args.tree.now)) (0 ∷ []) c.fields.out.items c.append.new.out.items c.append.result (subst (λ r. Partly c.args.out.now.items (struct_bytes (tree_view c.args.tree.now)) r c.fields.out.items) rest c.fields.invariant) c.append.ensures
