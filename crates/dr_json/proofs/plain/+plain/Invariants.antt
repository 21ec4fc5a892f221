use Rattle.std.proofs.Common.{◌+◌, ◌*◌}
use Rattle.json.specs.Value.{members_view}
use Rattle.dr_meaning.specs.Schema.{depth, shape_depth}
use Rattle.dr_nested.specs.Views.{fields_view, shape_view}
use Rattle.dr_json.proofs.PlainLemmas.{PlainLeft, ItemsPlain}
use Rattle.dr_json.proofs.plain.+plain.Given as goal

-- ---- how deep the schema still goes, and then which function calls which at one depth

abbrev pub decreases-plain_field : goal.decreases-plain_field
decreases-plain_field l = 8 * shape_depth (shape_view (l.field.now).shape) + 5

abbrev pub decreases-plain_only : goal.decreases-plain_only
decreases-plain_only l = 8 * shape_depth (shape_view l.shape.now) + 4

abbrev pub decreases-plain_elements : goal.decreases-plain_elements
decreases-plain_elements l = 8 * shape_depth (shape_view l.shape.now) + 4

abbrev pub decreases-plain_instance : goal.decreases-plain_instance
decreases-plain_instance l = 8 * shape_depth (shape_view l.shape.now) + 3

abbrev pub decreases-plain_node : goal.decreases-plain_node
decreases-plain_node l = 8 * depth (fields_view l.fields.now) + 1

-- ---- what is still to be checked

abbrev pub invariant-plain_elements-items : goal.invariant-plain_elements-items
invariant-plain_elements-items l = ItemsPlain (shape_view l.shape) l.items l.item-index l.size

abbrev pub invariant-plain_node-fields : goal.invariant-plain_node-fields
invariant-plain_node-fields l = PlainLeft l.fields l.field-index (members_view l.members) l.size l.count
