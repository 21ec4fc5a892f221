use Rattle.std.proofs.Common.{◌≡◌, ◌≤◌, ◌<◌, ◌-◌, ◌+◌, sym, subst, map, to_z, of_z, ◌∙◌, length, refl, ap, arith, List, [], ◌∷◌, ◌++◌, ℕ, ℤ}
use Rattle.std.proofs.lemmas.Int.{to_z-of_z}
use Rattle.std.specs.Prelude.{◌==◌, option_map, Ok, Err}
use Rattle.std.proofs.lemmas.Result.{err_from_is_err_and}
use Rattle.dr_formats.specs.Reading.{Reading, got, give, goes_on, bytes_of}
use Rattle.dr_formats.specs.Compact as compact
use Rattle.dr_formats.specs.Compact.{CompactFault, value_of}
use Rattle.dr_bytes.specs.Cutting.{left}
use mir.Syntax.{w16}
use Rattle.dr_compact.specs.Views.{SeenValues, field_view, values_view, elements_view, map_view, tree_view, truth_type_view}
use Rattle.dr_compact.specs.Steps.{start_view}
use Rattle.dr_compact.specs.declared.tree.Values.TheVariants as lists
use Rattle.dr_compact.proofs.ViewLemmas.{view-truths, view-bytes, view-i16s, view-i32s, view-i64s, view-doubles, view-binaries, view-lists, view-sets, view-maps, view-structs, view-list, view-set, view-map, view-struct, view-pair, view-tree_of, lent_binary, as_list, as_set, as_struct}
use Rattle.dr_compact.proofs.ElementLemmas.{behind_joined, signed_joined, item_reads, truth_reads, byte_reads, list_reads, set_reads, map_reads, struct_reads, list_got, set_got, struct_got, list_refused, set_refused, map_refused, struct_refused}
use Rattle.dr_compact.proofs.StepLemmas.{map_is_inside, FieldsRead}
use Rattle.dr_compact.proofs.LoopLemmas.{value_read, elements_got, elements_fault, map_got, two_read, no_key, no_value, struct_ended, one_field_read, no_start, no_item}
use Rattle.dr_compact.proofs.reading.+reading.Goals as goal

-- ---- one more value

pub read_element-returns-in_ok-put_behind-in-Truths : goal.read_element-returns-in_ok-put_behind-in-Truths
read_element-returns-in_ok-put_behind-in-Truths t c =
    behind_joined (lists.Truths c.in-Truths.kind) (truth_type_view c.in-Truths.kind) compact.truth_item (view-truths c.in-Truths.kind) c.args.depth c.args.values c.in-Truths.truths (left c.args.cut.now) (left c.next_truth.new.cut) c.next_truth.result (Ok c.in_ok-put_behind-in-Truths.field-0) c.in-Truths.is
    (truth_reads c.in-Truths.kind c.args.depth (left c.args.cut.now) (left c.next_truth.new.cut) c.next_truth.result c.next_truth.ensures.byte c.next_truth.ensures.end)
    c.in_ok-put_behind-in-Truths.ensures.put c.in_ok-put_behind-in-Truths.ensures.want c.in_ok-put_behind-in-Truths.ensures.fault

pub read_element-returns-in_err-put_behind-in-Truths : goal.read_element-returns-in_err-put_behind-in-Truths
read_element-returns-in_err-put_behind-in-Truths t c =
    let p = err_from_is_err_and c.from_residual.result c.from_residual.ensures.1 in
    rw (p.1, p.2) (behind_joined (lists.Truths c.in-Truths.kind) (truth_type_view c.in-Truths.kind) compact.truth_item (view-truths c.in-Truths.kind) c.args.depth c.args.values c.in-Truths.truths (left c.args.cut.now) (left c.next_truth.new.cut) c.next_truth.result (Err c.in_err-put_behind-in-Truths.field-0.0) c.in-Truths.is
    (truth_reads c.in-Truths.kind c.args.depth (left c.args.cut.now) (left c.next_truth.new.cut) c.next_truth.result c.next_truth.ensures.byte c.next_truth.ensures.end)
    c.in_err-put_behind-in-Truths.ensures.put c.in_err-put_behind-in-Truths.ensures.want c.in_err-put_behind-in-Truths.ensures.fault)

pub read_element-returns-in_ok-put_behind-in-Bytes : goal.read_element-returns-in_ok-put_behind-in-Bytes
read_element-returns-in_ok-put_behind-in-Bytes t c =
    behind_joined lists.Bytes compact.byte_type compact.byte_item view-bytes c.args.depth c.args.values c.in-Bytes.bytes (left c.args.cut.now) (left c.next_byte.new.cut) c.next_byte.result (Ok c.in_ok-put_behind-in-Bytes.field-0) c.in-Bytes.is
    (byte_reads c.args.depth (left c.args.cut.now) (left c.next_byte.new.cut) c.next_byte.result c.next_byte.ensures.byte c.next_byte.ensures.end)
    c.in_ok-put_behind-in-Bytes.ensures.put c.in_ok-put_behind-in-Bytes.ensures.want c.in_ok-put_behind-in-Bytes.ensures.fault

pub read_element-returns-in_err-put_behind-in-Bytes : goal.read_element-returns-in_err-put_behind-in-Bytes
read_element-returns-in_err-put_behind-in-Bytes t c =
    let p = err_from_is_err_and c.from_residual-in_err-put_behind-in-Bytes.result c.from_residual-in_err-put_behind-in-Bytes.ensures.1 in
    rw (p.1, p.2) (behind_joined lists.Bytes compact.byte_type compact.byte_item view-bytes c.args.depth c.args.values c.in-Bytes.bytes (left c.args.cut.now) (left c.next_byte.new.cut) c.next_byte.result (Err c.in_err-put_behind-in-Bytes.field-0.0) c.in-Bytes.is
    (byte_reads c.args.depth (left c.args.cut.now) (left c.next_byte.new.cut) c.next_byte.result c.next_byte.ensures.byte c.next_byte.ensures.end)
    c.in_err-put_behind-in-Bytes.ensures.put c.in_err-put_behind-in-Bytes.ensures.want c.in_err-put_behind-in-Bytes.ensures.fault)

pub read_element-returns-in_ok-put_signed-in-I16s : goal.read_element-returns-in_ok-put_signed-in-I16s
read_element-returns-in_ok-put_signed-in-I16s t c =
    signed_joined lists.I16s compact.i16_type compact.i16_item view-i16s c.args.depth c.args.values c.in-I16s.numbers (left c.args.cut.now) (left c.put_signed.new.cut) (Ok c.in_ok-put_signed-in-I16s.field-0) c.in-I16s.is refl c.in_ok-put_signed-in-I16s.ensures.put c.in_ok-put_signed-in-I16s.ensures.fault

pub read_element-returns-in_err-put_signed-in-I16s : goal.read_element-returns-in_err-put_signed-in-I16s
read_element-returns-in_err-put_signed-in-I16s t c =
    let p = err_from_is_err_and c.from_residual-in_err-put_signed-in-I16s.result c.from_residual-in_err-put_signed-in-I16s.ensures.1 in
    rw (p.1, p.2) (signed_joined lists.I16s compact.i16_type compact.i16_item view-i16s c.args.depth c.args.values c.in-I16s.numbers (left c.args.cut.now) (left c.put_signed.new.cut) (Err c.in_err-put_signed-in-I16s.field-0.0) c.in-I16s.is refl c.in_err-put_signed-in-I16s.ensures.put c.in_err-put_signed-in-I16s.ensures.fault)

pub read_element-returns-in_ok-put_signed-in-I32s : goal.read_element-returns-in_ok-put_signed-in-I32s
read_element-returns-in_ok-put_signed-in-I32s t c =
    signed_joined lists.I32s compact.i32_type compact.i32_item view-i32s c.args.depth c.args.values c.in-I32s.numbers (left c.args.cut.now) (left c.put_signed-in-I32s.new.cut) (Ok c.in_ok-put_signed-in-I32s.field-0) c.in-I32s.is refl c.in_ok-put_signed-in-I32s.ensures.put c.in_ok-put_signed-in-I32s.ensures.fault

pub read_element-returns-in_err-put_signed-in-I32s : goal.read_element-returns-in_err-put_signed-in-I32s
read_element-returns-in_err-put_signed-in-I32s t c =
    let p = err_from_is_err_and c.from_residual-in_err-put_signed-in-I32s.result c.from_residual-in_err-put_signed-in-I32s.ensures.1 in
    rw (p.1, p.2) (signed_joined lists.I32s compact.i32_type compact.i32_item view-i32s c.args.depth c.args.values c.in-I32s.numbers (left c.args.cut.now) (left c.put_signed-in-I32s.new.cut) (Err c.in_err-put_signed-in-I32s.field-0.0) c.in-I32s.is refl c.in_err-put_signed-in-I32s.ensures.put c.in_err-put_signed-in-I32s.ensures.fault)

pub read_element-returns-in_ok-put_signed-in-I64s : goal.read_element-returns-in_ok-put_signed-in-I64s
read_element-returns-in_ok-put_signed-in-I64s t c =
    signed_joined lists.I64s compact.i64_type compact.i64_item view-i64s c.args.depth c.args.values c.in-I64s.numbers (left c.args.cut.now) (left c.put_signed-in-I64s.new.cut) (Ok c.in_ok-put_signed-in-I64s.field-0) c.in-I64s.is refl c.in_ok-put_signed-in-I64s.ensures.put c.in_ok-put_signed-in-I64s.ensures.fault

pub read_element-returns-in_err-put_signed-in-I64s : goal.read_element-returns-in_err-put_signed-in-I64s
read_element-returns-in_err-put_signed-in-I64s t c =
    let p = err_from_is_err_and c.from_residual-in_err-put_signed-in-I64s.result c.from_residual-in_err-put_signed-in-I64s.ensures.1 in
    rw (p.1, p.2) (signed_joined lists.I64s compact.i64_type compact.i64_item view-i64s c.args.depth c.args.values c.in-I64s.numbers (left c.args.cut.now) (left c.put_signed-in-I64s.new.cut) (Err c.in_err-put_signed-in-I64s.field-0.0) c.in-I64s.is refl c.in_err-put_signed-in-I64s.ensures.put c.in_err-put_signed-in-I64s.ensures.fault)

pub read_element-returns-in_ok-put_behind-in-Doubles : goal.read_element-returns-in_ok-put_behind-in-Doubles
read_element-returns-in_ok-put_behind-in-Doubles t c =
    behind_joined lists.Doubles compact.double_type compact.double_item view-doubles c.args.depth c.args.values c.in-Doubles.doubles (left c.args.cut.now) (left c.next_double.new.cut) c.next_double.result (Ok c.in_ok-put_behind-in-Doubles.field-0) c.in-Doubles.is
    (item_reads (λ b. b) compact.double_item (bytes_of compact.malformed 8 (left c.args.cut.now)) (left c.next_double.new.cut) c.next_double.result c.next_double.ensures)
    c.in_ok-put_behind-in-Doubles.ensures.put c.in_ok-put_behind-in-Doubles.ensures.want c.in_ok-put_behind-in-Doubles.ensures.fault

pub read_element-returns-in_err-put_behind-in-Doubles : goal.read_element-returns-in_err-put_behind-in-Doubles
read_element-returns-in_err-put_behind-in-Doubles t c =
    let p = err_from_is_err_and c.from_residual-in_err-put_behind-in-Doubles.result c.from_residual-in_err-put_behind-in-Doubles.ensures.1 in
    rw (p.1, p.2) (behind_joined lists.Doubles compact.double_type compact.double_item view-doubles c.args.depth c.args.values c.in-Doubles.doubles (left c.args.cut.now) (left c.next_double.new.cut) c.next_double.result (Err c.in_err-put_behind-in-Doubles.field-0.0) c.in-Doubles.is
    (item_reads (λ b. b) compact.double_item (bytes_of compact.malformed 8 (left c.args.cut.now)) (left c.next_double.new.cut) c.next_double.result c.next_double.ensures)
    c.in_err-put_behind-in-Doubles.ensures.put c.in_err-put_behind-in-Doubles.ensures.want c.in_err-put_behind-in-Doubles.ensures.fault)

pub read_element-returns-in_ok-put_behind-in-Binaries : goal.read_element-returns-in_ok-put_behind-in-Binaries
read_element-returns-in_ok-put_behind-in-Binaries t c =
    behind_joined lists.Binaries compact.binary_type lent_binary view-binaries c.args.depth c.args.values c.in-Binaries.binaries (left c.args.cut.now) (left c.next_binary.new.cut) c.next_binary.result (Ok c.in_ok-put_behind-in-Binaries.field-0) c.in-Binaries.is
    (item_reads (λ b. b.now) compact.binary_item (compact.binary (left c.args.cut.now)) (left c.next_binary.new.cut) c.next_binary.result c.next_binary.ensures)
    c.in_ok-put_behind-in-Binaries.ensures.put c.in_ok-put_behind-in-Binaries.ensures.want c.in_ok-put_behind-in-Binaries.ensures.fault

pub read_element-returns-in_err-put_behind-in-Binaries : goal.read_element-returns-in_err-put_behind-in-Binaries
read_element-returns-in_err-put_behind-in-Binaries t c =
    let p = err_from_is_err_and c.from_residual-in_err-put_behind-in-Binaries.result c.from_residual-in_err-put_behind-in-Binaries.ensures.1 in
    rw (p.1, p.2) (behind_joined lists.Binaries compact.binary_type lent_binary view-binaries c.args.depth c.args.values c.in-Binaries.binaries (left c.args.cut.now) (left c.next_binary.new.cut) c.next_binary.result (Err c.in_err-put_behind-in-Binaries.field-0.0) c.in-Binaries.is
    (item_reads (λ b. b.now) compact.binary_item (compact.binary (left c.args.cut.now)) (left c.next_binary.new.cut) c.next_binary.result c.next_binary.ensures)
    c.in_err-put_behind-in-Binaries.ensures.put c.in_err-put_behind-in-Binaries.ensures.want c.in_err-put_behind-in-Binaries.ensures.fault)

pub read_element-returns-in_ok-put_behind-in-Lists : goal.read_element-returns-in_ok-put_behind-in-Lists
read_element-returns-in_ok-put_behind-in-Lists t c =
    behind_joined lists.Lists compact.list_type as_list view-lists c.args.depth c.args.values c.in-Lists.lists (left c.args.cut.now) (left c.read_elements-list.new.cut) c.read_elements-list.result (Ok c.in_ok-put_behind-in-Lists.field-0) c.in-Lists.is
    (list_reads c.args.depth (left c.args.cut.now) (left c.read_elements-list.new.cut) c.read_elements-list.result c.read_elements-list.ensures)
    c.in_ok-put_behind-in-Lists.ensures.put c.in_ok-put_behind-in-Lists.ensures.want c.in_ok-put_behind-in-Lists.ensures.fault

pub read_element-returns-in_err-put_behind-in-Lists : goal.read_element-returns-in_err-put_behind-in-Lists
read_element-returns-in_err-put_behind-in-Lists t c =
    let p = err_from_is_err_and c.from_residual-in_err-put_behind-in-Lists.result c.from_residual-in_err-put_behind-in-Lists.ensures.1 in
    rw (p.1, p.2) (behind_joined lists.Lists compact.list_type as_list view-lists c.args.depth c.args.values c.in-Lists.lists (left c.args.cut.now) (left c.read_elements-list.new.cut) c.read_elements-list.result (Err c.in_err-put_behind-in-Lists.field-0.0) c.in-Lists.is
    (list_reads c.args.depth (left c.args.cut.now) (left c.read_elements-list.new.cut) c.read_elements-list.result c.read_elements-list.ensures)
    c.in_err-put_behind-in-Lists.ensures.put c.in_err-put_behind-in-Lists.ensures.want c.in_err-put_behind-in-Lists.ensures.fault)

pub read_element-returns-in_ok-put_behind-in-Sets : goal.read_element-returns-in_ok-put_behind-in-Sets
read_element-returns-in_ok-put_behind-in-Sets t c =
    behind_joined lists.Sets compact.set_type as_set view-sets c.args.depth c.args.values c.in-Sets.sets (left c.args.cut.now) (left c.read_elements-set.new.cut) c.read_elements-set.result (Ok c.in_ok-put_behind-in-Sets.field-0) c.in-Sets.is
    (set_reads c.args.depth (left c.args.cut.now) (left c.read_elements-set.new.cut) c.read_elements-set.result c.read_elements-set.ensures)
    c.in_ok-put_behind-in-Sets.ensures.put c.in_ok-put_behind-in-Sets.ensures.want c.in_ok-put_behind-in-Sets.ensures.fault

pub read_element-returns-in_err-put_behind-in-Sets : goal.read_element-returns-in_err-put_behind-in-Sets
read_element-returns-in_err-put_behind-in-Sets t c =
    let p = err_from_is_err_and c.from_residual-in_err-put_behind-in-Sets.result c.from_residual-in_err-put_behind-in-Sets.ensures.1 in
    rw (p.1, p.2) (behind_joined lists.Sets compact.set_type as_set view-sets c.args.depth c.args.values c.in-Sets.sets (left c.args.cut.now) (left c.read_elements-set.new.cut) c.read_elements-set.result (Err c.in_err-put_behind-in-Sets.field-0.0) c.in-Sets.is
    (set_reads c.args.depth (left c.args.cut.now) (left c.read_elements-set.new.cut) c.read_elements-set.result c.read_elements-set.ensures)
    c.in_err-put_behind-in-Sets.ensures.put c.in_err-put_behind-in-Sets.ensures.want c.in_err-put_behind-in-Sets.ensures.fault)

pub read_element-returns-in_ok-put_behind-in-Maps : goal.read_element-returns-in_ok-put_behind-in-Maps
read_element-returns-in_ok-put_behind-in-Maps t c =
    behind_joined lists.Maps compact.map_type map_view view-maps c.args.depth c.args.values c.in-Maps.maps (left c.args.cut.now) (left c.read_map-map.new.cut) c.read_map-map.result (Ok c.in_ok-put_behind-in-Maps.field-0) c.in-Maps.is
    (map_reads c.args.depth (left c.args.cut.now) (left c.read_map-map.new.cut) c.read_map-map.result c.read_map-map.ensures)
    c.in_ok-put_behind-in-Maps.ensures.put c.in_ok-put_behind-in-Maps.ensures.want c.in_ok-put_behind-in-Maps.ensures.fault

pub read_element-returns-in_err-put_behind-in-Maps : goal.read_element-returns-in_err-put_behind-in-Maps
read_element-returns-in_err-put_behind-in-Maps t c =
    let p = err_from_is_err_and c.from_residual-in_err-put_behind-in-Maps.result c.from_residual-in_err-put_behind-in-Maps.ensures.1 in
    rw (p.1, p.2) (behind_joined lists.Maps compact.map_type map_view view-maps c.args.depth c.args.values c.in-Maps.maps (left c.args.cut.now) (left c.read_map-map.new.cut) c.read_map-map.result (Err c.in_err-put_behind-in-Maps.field-0.0) c.in-Maps.is
    (map_reads c.args.depth (left c.args.cut.now) (left c.read_map-map.new.cut) c.read_map-map.result c.read_map-map.ensures)
    c.in_err-put_behind-in-Maps.ensures.put c.in_err-put_behind-in-Maps.ensures.want c.in_err-put_behind-in-Maps.ensures.fault)

pub read_element-returns-in_ok-put_behind-in-Structs : goal.read_element-returns-in_ok-put_behind-in-Structs
read_element-returns-in_ok-put_behind-in-Structs t c =
    behind_joined lists.Structs compact.struct_type as_struct view-structs c.args.depth c.args.values c.in-Structs.structs (left c.args.cut.now) (left c.read_tree-tree.new.cut) c.read_tree-tree.result (Ok c.in_ok-put_behind-in-Structs.field-0) c.in-Structs.is
    (struct_reads c.args.depth (left c.args.cut.now) (left c.read_tree-tree.new.cut) c.read_tree-tree.result c.read_tree-tree.ensures)
    c.in_ok-put_behind-in-Structs.ensures.put c.in_ok-put_behind-in-Structs.ensures.want c.in_ok-put_behind-in-Structs.ensures.fault

pub read_element-returns-in_err-put_behind-in-Structs : goal.read_element-returns-in_err-put_behind-in-Structs
read_element-returns-in_err-put_behind-in-Structs t c =
    let p = err_from_is_err_and c.from_residual-in_err-put_behind-in-Structs.result c.from_residual-in_err-put_behind-in-Structs.ensures.1 in
    rw (p.1, p.2) (behind_joined lists.Structs compact.struct_type as_struct view-structs c.args.depth c.args.values c.in-Structs.structs (left c.args.cut.now) (left c.read_tree-tree.new.cut) c.read_tree-tree.result (Err c.in_err-put_behind-in-Structs.field-0.0) c.in-Structs.is
    (struct_reads c.args.depth (left c.args.cut.now) (left c.read_tree-tree.new.cut) c.read_tree-tree.result c.read_tree-tree.ensures)
    c.in_err-put_behind-in-Structs.ensures.put c.in_err-put_behind-in-Structs.ensures.want c.in_err-put_behind-in-Structs.ensures.fault)

-- ---- the value of a field

pub read_field_item-returns-in_err-read_elements-in-List : goal.read_field_item-returns-in_err-read_elements-in-List
read_field_item-returns-in_err-read_elements-in-List t c =
    let p = err_from_is_err_and c.from_residual-in_err-read_elements-in-List.result c.from_residual-in_err-read_elements-in-List.ensures.1 in
    rw (p.1, p.2, c.in-List.is) (list_refused c.args.depth (left c.args.cut.now) c.in_err-read_elements-in-List.field-0.0 c.in_err-read_elements-in-List.ensures)

pub read_field_item-returns-in_err-read_elements-in-Set : goal.read_field_item-returns-in_err-read_elements-in-Set
read_field_item-returns-in_err-read_elements-in-Set t c =
    let p = err_from_is_err_and c.from_residual-in_err-read_elements-in-Set.result c.from_residual-in_err-read_elements-in-Set.ensures.1 in
    rw (p.1, p.2, c.in-Set.is) (set_refused c.args.depth (left c.args.cut.now) c.in_err-read_elements-in-Set.field-0.0 c.in_err-read_elements-in-Set.ensures)

pub read_field_item-returns-in_err-read_tree-in-Struct : goal.read_field_item-returns-in_err-read_tree-in-Struct
read_field_item-returns-in_err-read_tree-in-Struct t c =
    let p = err_from_is_err_and c.from_residual-in_err-read_tree-in-Struct.result c.from_residual-in_err-read_tree-in-Struct.ensures.1 in
    rw (p.1, p.2, c.in-Struct.is) (struct_refused c.args.depth (left c.args.cut.now) c.in_err-read_tree-in-Struct.field-0.0 c.in_err-read_tree-in-Struct.ensures)

pub read_field_item-returns-in_err-map-in-Map : goal.read_field_item-returns-in_err-map-in-Map
read_field_item-returns-in_err-map-in-Map t c =
    let p = err_from_is_err_and c.from_residual-in_err-map-in-Map.result c.from_residual-in_err-map-in-Map.ensures.1 in
    rw (p.1, p.2, c.in-Map.is) (map_refused c.args.depth (left c.args.cut.now) c.in_err-map-in-Map.field-0.0 c.in_err-map-in-Map.ensures)

pub read_field_item-returns-in_ok-read_elements-in-List : goal.read_field_item-returns-in_ok-read_elements-in-List
read_field_item-returns-in_ok-read_elements-in-List t c =
    let x = c.in_ok-read_elements-in-List in
    rw (c.in-List.is, view-list x.field-0) (list_got c.args.depth (left c.args.cut.now) (left c.read_elements.new.cut) (elements_view x.field-0) x.ensures)

pub read_field_item-returns-in_ok-read_elements-in-Set : goal.read_field_item-returns-in_ok-read_elements-in-Set
read_field_item-returns-in_ok-read_elements-in-Set t c =
    let x = c.in_ok-read_elements-in-Set in
    rw (c.in-Set.is, view-set x.field-0) (set_got c.args.depth (left c.args.cut.now) (left c.read_elements-in-Set.new.cut) (elements_view x.field-0) x.ensures)

pub read_field_item-returns-in_ok-read_tree-in-Struct : goal.read_field_item-returns-in_ok-read_tree-in-Struct
read_field_item-returns-in_ok-read_tree-in-Struct t c =
    let x = c.in_ok-read_tree-in-Struct in
    rw (c.in-Struct.is, view-struct x.field-0) (struct_got c.args.depth (left c.args.cut.now) (left c.read_tree.new.cut) (tree_view x.field-0) x.ensures)

pub read_field_item-returns-in_ok-new-in-Map : goal.read_field_item-returns-in_ok-new-in-Map
read_field_item-returns-in_ok-new-in-Map t c =
    let x = c.in_ok-new-in-Map in
    rw (c.in-Map.is, view-map x.field-0, x.ensures.ok) (map_is_inside c.args.depth (left c.args.cut.now) ∙ c.in_ok-map-in-Map.ensures)

-- ---- the values of a list or set

pub read_elements-returns-in_err-values : goal.read_elements-returns-in_err-values
read_elements-returns-in_err-values t c =
    let p = err_from_is_err_and c.from_residual-in_err-values.result c.from_residual-in_err-values.ensures.1 in
    let s = ap (λ (v : SeenValues). v.element) c.no_values-values.ensures in
    rw (p.1, p.2) (elements_fault c.in_ok-inside.inside c.args.depth (left c.args.cut.now) (left c.elements.cut) (left c.list_header.new.cut) c.in_ok-size.size c.elements.counter _ _ (values_view c.elements.values) c.in_err-values.field-0.0 c.in_ok-inside.ensures.fewer c.in_ok-size.ensures s c.elements-test.true c.elements.invariant c.in_err-values.ensures)

pub read_elements-elements-preserved : goal.read_elements-elements-preserved
read_elements-elements-preserved t c = value_read c.in_ok-inside.inside c.in_ok-size.size c.elements.counter _ (left c.list_header.new.cut) (left c.elements.cut) (left c.read_element.new.cut) (values_view c.elements.values) (values_view c.in_ok-values.values) c.elements-test.true c.elements.invariant c.in_ok-values.ensures

pub read_elements-returns : goal.read_elements-returns
read_elements-returns t c =
    let s = ap (λ (v : SeenValues). v.element) c.no_values-values.ensures in
    elements_got c.in_ok-inside.inside c.args.depth (left c.args.cut.now) (left c.list_header.new.cut) (left c.elements.cut) c.in_ok-size.size c.elements.counter _ _ (values_view c.elements.values) c.in_ok-inside.ensures.fewer c.in_ok-size.ensures s c.elements-test.false c.elements.invariant

-- ---- the pairs of a map

pub read_map-returns-in_err-keys : goal.read_map-returns-in_err-keys
read_map-returns-in_err-keys t c =
    let p = err_from_is_err_and c.from_residual-in_err-keys.result c.from_residual-in_err-keys.ensures.1 in
    let a = ap (λ (v : SeenValues). v.element) c.no_values-keys-2.ensures in
    let b = ap (λ (v : SeenValues). v.element) c.no_values-values-2.ensures in
    rw (p.1, p.2) (no_key c.in_ok-inside.inside c.args.depth (left c.args.cut.now) (left c.next_number.new.cut) (left c.key_and_value.new.cut) (left c.pairs.cut) c.in_ok-size.size c.pairs.counter _ _ _ _ (values_view c.pairs.keys) (values_view c.pairs.values) c.in_err-keys.field-0.0 c.in_ok-inside.ensures.fewer c.in_ok-size.ensures c.if-size-eq0.false c.in_ok-key.ensures a b c.pairs-test.true c.pairs.invariant c.in_err-keys.ensures)

pub read_map-returns-in_err-values : goal.read_map-returns-in_err-values
read_map-returns-in_err-values t c =
    let p = err_from_is_err_and c.from_residual-in_err-values.result c.from_residual-in_err-values.ensures.1 in
    let a = ap (λ (v : SeenValues). v.element) c.no_values-keys-2.ensures in
    let b = ap (λ (v : SeenValues). v.element) c.no_values-values-2.ensures in
    rw (p.1, p.2) (no_value c.in_ok-inside.inside c.args.depth (left c.args.cut.now) (left c.next_number.new.cut) (left c.key_and_value.new.cut) (left c.pairs.cut) (left c.read_element.new.cut) c.in_ok-size.size c.pairs.counter _ _ _ _ (values_view c.pairs.keys) (values_view c.in_ok-keys.keys) (values_view c.pairs.values) c.in_err-values.field-0.0 c.in_ok-inside.ensures.fewer c.in_ok-size.ensures c.if-size-eq0.false c.in_ok-key.ensures a b c.pairs-test.true c.pairs.invariant c.in_ok-keys.ensures c.in_err-values.ensures)

pub read_map-pairs-preserved : goal.read_map-pairs-preserved
read_map-pairs-preserved t c = two_read c.in_ok-inside.inside c.in_ok-size.size c.pairs.counter _ _ (left c.key_and_value.new.cut) (left c.pairs.cut) (left c.read_element.new.cut) (left c.read_element-in-pairs.new.cut) (values_view c.pairs.keys) (values_view c.in_ok-keys.keys) (values_view c.pairs.values) (values_view c.in_ok-values.values) c.pairs-test.true c.pairs.invariant c.in_ok-keys.ensures c.in_ok-values.ensures

pub read_map-returns : goal.read_map-returns
read_map-returns t c =
    let a = ap (λ (v : SeenValues). v.element) c.no_values-keys-2.ensures in
    let b = ap (λ (v : SeenValues). v.element) c.no_values-values-2.ensures in
    let most : c.pairs.counter ≤ c.in_ok-size.size = omega arith in
    simp view-pair (map_got c.in_ok-inside.inside c.args.depth (left c.args.cut.now) (left c.next_number.new.cut) (left c.key_and_value.new.cut) (left c.pairs.cut) c.in_ok-size.size c.pairs.counter _ _ _ _ (values_view c.pairs.keys) (values_view c.pairs.values) c.in_ok-inside.ensures.fewer c.in_ok-size.ensures c.if-size-eq0.false c.in_ok-key.ensures a b c.pairs-test.false most c.pairs.invariant)

-- ---- the fields of a struct

pub read_tree-returns-in_err-field_header : goal.read_tree-returns-in_err-field_header
read_tree-returns-in_err-field_header t c =
    let p = err_from_is_err_and c.from_residual-in_err-field_header.result c.from_residual-in_err-field_header.ensures.1 in
    let l : c.fields.counter < length (left c.args.cut.now) = omega (arith, c.fields-test.true, ap length c.rest-end.ensures) in
    rw (p.1, p.2) (no_start c.in_ok-inside.inside c.args.depth (length (left c.args.cut.now)) c.fields.counter (left c.args.cut.now) (left c.fields.cut) _ _ c.in_err-field_header.field-0.0 c.in_ok-inside.ensures.fewer refl l c.fields.invariant c.in_err-field_header.ensures)

pub read_tree-returns-in-None : goal.read_tree-returns-in-None
read_tree-returns-in-None t c =
    let l : c.fields.counter < length (left c.args.cut.now) = omega (arith, c.fields-test.true, ap length c.rest-end.ensures) in
    let none = c.in_ok-field_header.ensures ∙ ap (λ o. got (option_map start_view o) (left c.field_header.new.cut)) c.in-None.is in
    rw (view-tree_of c.fields.fields) (struct_ended c.in_ok-inside.inside c.args.depth (length (left c.args.cut.now)) c.fields.counter (left c.args.cut.now) (left c.fields.cut) (left c.field_header.new.cut) c.fields.fields.items _ c.in_ok-inside.ensures.fewer refl l c.fields.invariant none)

pub read_tree-returns-in_err-item-in-Some : goal.read_tree-returns-in_err-item-in-Some
read_tree-returns-in_err-item-in-Some t c =
    let p = err_from_is_err_and c.from_residual-in_err-item-in-Some.result c.from_residual-in_err-item-in-Some.ensures.1 in
    let l : c.fields.counter < length (left c.args.cut.now) = omega (arith, c.fields-test.true, ap length c.rest-end.ensures) in
    let some = c.in_ok-field_header.ensures ∙ ap (λ o. got (option_map start_view o) (left c.field_header.new.cut)) c.in-Some.is in
    rw (p.1, p.2) (no_item c.in_ok-inside.inside c.args.depth (length (left c.args.cut.now)) c.fields.counter (left c.args.cut.now) (left c.fields.cut) (left c.field_header.new.cut) _ _ _ _ c.in_err-item-in-Some.field-0.0 c.in_ok-inside.ensures.fewer refl l c.fields.invariant some c.in_err-item-in-Some.ensures)

pub read_tree-fields-preserved : goal.read_tree-fields-preserved
read_tree-fields-preserved t c =
    let l : c.fields.counter < length (left c.args.cut.now) = omega (arith, c.fields-test.true, ap length c.rest-end.ensures) in
    let some = c.in_ok-field_header.ensures ∙ ap (λ o. got (option_map start_view o) (left c.field_header.new.cut)) c.in-Some.is in
    let same : to_z w16 (of_z w16 c.in-Some.id) ≡ c.in-Some.id = grind (arith, to_z-of_z) in
    subst (λ z. FieldsRead (value_of c.in_ok-inside.inside) (length (left c.args.cut.now)) (left c.args.cut.now) (length (left c.args.cut.now) - (c.fields.counter + 1)) (map field_view c.push.new.self.items) z (left c.read_field_item.new.cut)) (sym same)
    (one_field_read c.in_ok-inside.inside (length (left c.args.cut.now)) c.fields.counter (left c.args.cut.now) (left c.fields.cut) (left c.field_header.new.cut) (left c.read_field_item.new.cut) c.fields.fields.items c.push.new.self.items _ _ c.in-Some.id _ l c.fields.invariant some c.in_ok-item-in-Some.ensures same c.in_ok-push-in-Some.ensures.items)
