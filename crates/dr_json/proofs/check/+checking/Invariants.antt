use Rattle.std.proofs.Common.{◌+◌, ◌*◌}
use Rattle.serde_json.specs.View.{members_view}
use Rattle.dr_meaning.specs.Schema.{depth, shape_depth}
use Rattle.dr_nested.specs.Views.{fields_view, shape_view}
use Rattle.dr_json.proofs.CheckLemmas.{FieldsLeft, ItemsLeft}
use Rattle.dr_json.proofs.check.+checking.Given as goal

-- ---- how deep the schema still goes, and then which function calls which at one depth

abbrev pub decreases-check_field : goal.decreases-check_field
decreases-check_field l = 8 * shape_depth (shape_view (l.field.now).shape) + 5

abbrev pub decreases-check_only : goal.decreases-check_only
decreases-check_only l = 8 * shape_depth (shape_view l.shape.now) + 4

abbrev pub decreases-check_elements : goal.decreases-check_elements
decreases-check_elements l = 8 * shape_depth (shape_view l.shape.now) + 4

abbrev pub decreases-check_instance : goal.decreases-check_instance
decreases-check_instance l = 8 * shape_depth (shape_view l.shape.now) + 3

abbrev pub decreases-check_node : goal.decreases-check_node
decreases-check_node l = 8 * depth (fields_view l.fields.now) + 2

abbrev pub decreases-check_fields : goal.decreases-check_fields
decreases-check_fields l = 8 * depth (fields_view l.fields.now) + 1

-- ---- what is still to be checked

abbrev pub invariant-check_elements-items : goal.invariant-check_elements-items
invariant-check_elements-items l = ItemsLeft (shape_view l.shape) l.items l.item-index l.size

abbrev pub invariant-check_fields-fields : goal.invariant-check_fields-fields
invariant-check_fields-fields l = FieldsLeft l.fields l.field-index (members_view l.object.entries) l.size l.count
