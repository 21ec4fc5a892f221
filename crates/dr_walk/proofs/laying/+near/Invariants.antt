use Rattle.std.proofs.Common.{◌≡◌, ◌+◌, ◌*◌, List, drop}
use Rattle.dr_meaning.specs.Schema.{depth, shape_depth}
use Rattle.dr_nested.specs.Views.{shape_view, fields_view}
use Rattle.dr_levels.proofs.OrderLemmas.{shifted}
use Rattle.dr_moves.specs.Course.{near_items}
use Rattle.dr_walk.specs.Laying.{FlatItem, lay, laying}
use Rattle.dr_walk.specs.Views.{picks_view, gates_view, level_view}
use Rattle.dr_walk.proofs.laying.+near.Given as goal

-- ---- how deep the schema still goes, and then which function calls which at one depth

abbrev pub decreases-add_field_near : goal.decreases-add_field_near
decreases-add_field_near l = 8 * shape_depth (shape_view (l.field.now).shape) + 6

abbrev pub decreases-add_optional_near : goal.decreases-add_optional_near
decreases-add_optional_near l = 8 * shape_depth (shape_view l.shape.now) + 4

abbrev pub decreases-add_shape_near : goal.decreases-add_shape_near
decreases-add_shape_near l = 8 * shape_depth (shape_view l.shape.now) + 3

abbrev pub decreases-add_group_near : goal.decreases-add_group_near
decreases-add_group_near l = 8 * depth (fields_view (l.fields.now).items) + 1

-- the fields from this one on are still to be gone through
abbrev pub invariant-add_group_near-fields : goal.invariant-add_group_near-fields
invariant-add_group_near-fields l = (code : List FlatItem) → lay (near_items (fields_view (drop l.place l.fields.items)) (shifted l.place (picks_view l.picks)) (gates_view l.gates) l.definition) (laying code (level_view l.level))
    ≡ lay (near_items (fields_view l.fields.items) (picks_view l.picks) (gates_view l.gates) l.definition) (laying code (level_view l.fn.level))
