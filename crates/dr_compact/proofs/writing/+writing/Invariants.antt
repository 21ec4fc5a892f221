use Rattle.std.proofs.Common.{drop}
use Rattle.dr_formats.specs.Compact.{fields_bytes, items_bytes, pairs_bytes, struct_bytes, item_bytes}
use Rattle.dr_compact.specs.Views.{values_view, map_view, tree_view, fields_view, items_from, pairs_from}
use Rattle.dr_compact.specs.Writes.{values_bytes}
use Rattle.dr_compact.proofs.WriteLemmas.{Partly}
use Rattle.dr_compact.proofs.writing.+writing.Given as goal

-- the fields from this one on are still to be written
abbrev pub invariant-write_tree-fields : goal.invariant-write_tree-fields
invariant-write_tree-fields l = Partly l.fn.out.items (struct_bytes (tree_view l.fn.tree)) (fields_bytes l.last (fields_view (drop l.field-index l.field-items))) l.out.items

-- the values from this one on are still to be written
abbrev pub invariant-write_values-elements : goal.invariant-write_values-elements
invariant-write_values-elements l = Partly l.fn.out.items (values_bytes (values_view l.values)) (items_bytes (items_from (drop l.index (values_view l.values).values))) l.out.items

-- the pairs from this one on are still to be written
abbrev pub invariant-write_map-pairs : goal.invariant-write_map-pairs
invariant-write_map-pairs l =
    Partly l.fn.out.items (item_bytes (map_view l.map))
    (pairs_bytes (pairs_from (drop l.index (values_view l.map.keys).values) (drop l.index (values_view l.map.values).values))) l.out.items
