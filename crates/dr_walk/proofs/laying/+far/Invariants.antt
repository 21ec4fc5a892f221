use Rattle.std.proofs.Common.{◌≡◌, ◌+◌, ◌*◌, drop}
use Rattle.dr_meaning.specs.Schema.{repeated_fields, depth, shape_depth}
use Rattle.dr_nested.specs.Views.{shape_view, fields_view}
use Rattle.dr_levels.proofs.OrderLemmas.{shifted}
use Rattle.dr_moves.specs.Course.{far_items}
use Rattle.dr_walk.specs.Laying.{lay, laying}
use Rattle.dr_walk.specs.Views.{picks_view, gates_view, level_view, items_view}
use Rattle.dr_walk.proofs.laying.+far.Given as goal

-- ---- how deep the schema still goes, and then which function calls which at one depth

abbrev pub decreases-add_selected_far : goal.decreases-add_selected_far
decreases-add_selected_far l = 8 * shape_depth (shape_view (l.field.now).shape) + 7

abbrev pub decreases-add_field_far : goal.decreases-add_field_far
decreases-add_field_far l = 8 * shape_depth (shape_view (l.field.now).shape) + 6

abbrev pub decreases-body_of : goal.decreases-body_of
decreases-body_of l = 8 * shape_depth (shape_view l.shape.now) + 4

abbrev pub decreases-add_shape_far : goal.decreases-add_shape_far
decreases-add_shape_far l = 8 * shape_depth (shape_view l.shape.now) + 3

abbrev pub decreases-add_group_far : goal.decreases-add_group_far
decreases-add_group_far l = 8 * depth (fields_view (l.fields.now).items) + 1

-- the fields from this one on are still to be gone through
abbrev pub invariant-add_group_far-fields : goal.invariant-add_group_far-fields
invariant-add_group_far-fields l = record {
  numbers : l.at.number + repeated_fields (fields_view (drop l.place l.fields.items)) ≡ l.fn.at.number + repeated_fields (fields_view l.fields.items);
  level : l.at.level ≡ l.fn.at.level;
  definition : l.at.definition ≡ l.fn.at.definition;
  laid : lay (far_items (fields_view (drop l.place l.fields.items)) (shifted l.place (picks_view l.picks)) l.at.number l.at.level (gates_view l.gates) l.at.definition) (laying (items_view l.code.items) (level_view l.level))
      ≡ lay (far_items (fields_view l.fields.items) (picks_view l.picks) l.fn.at.number l.fn.at.level (gates_view l.gates) l.fn.at.definition) (laying (items_view l.fn.code.items) (level_view l.fn.level));
}
