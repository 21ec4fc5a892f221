use Rattle.std.proofs.Common.{◌≡◌, ◌+◌, ◌-◌, ◌*◌, length, map}
use Rattle.dr_formats.specs.Compact.{value_of}
use Rattle.dr_bytes.specs.Cutting.{left}
use Rattle.dr_compact.specs.Views.{values_view, field_view}
use Rattle.dr_compact.proofs.StepLemmas.{ItemsRead, PairsRead, FieldsRead}
use Rattle.dr_compact.proofs.reading.+reading.Given as goal

abbrev pub decreases-read_element : goal.decreases-read_element
decreases-read_element l = 2 * l.depth + 1

abbrev pub decreases-read_field_item : goal.decreases-read_field_item
decreases-read_field_item l = 2 * l.depth + 1

abbrev pub decreases-read_elements : goal.decreases-read_elements
decreases-read_elements l = 2 * l.depth

abbrev pub decreases-read_map : goal.decreases-read_map
decreases-read_map l = 2 * l.depth

abbrev pub decreases-read_tree : goal.decreases-read_tree
decreases-read_tree l = 2 * l.depth

-- the values so far and those behind them are those of the size
abbrev pub invariant-read_elements-elements : goal.invariant-read_elements-elements
invariant-read_elements-elements l =
    let t = (values_view l.initial.values).element in
    ((values_view l.values).element ≡ t)
    × ItemsRead (value_of l.inside t) l.size (left l.initial.cut) (l.size - l.counter) (values_view l.values).values (left l.cut)

-- the pairs so far and those behind them are those of the size
abbrev pub invariant-read_map-pairs : goal.invariant-read_map-pairs
invariant-read_map-pairs l =
    PairsRead (value_of l.inside) l.size (left l.initial.cut) (l.size - l.counter) l.counter
    (values_view l.initial.keys).element (values_view l.initial.values).element (values_view l.keys) (values_view l.values) (left l.cut)

-- the fields so far and those behind them are the struct's
abbrev pub invariant-read_tree-fields : goal.invariant-read_tree-fields
invariant-read_tree-fields l =
    let size = length (left l.initial.cut) in
    FieldsRead (value_of l.inside) size (left l.initial.cut) (size - l.counter) (map field_view l.fields.items) l.last (left l.cut)
