use Rattle.std.proofs.Common.{◌≡◌, ◌+◌, ◌*◌, drop}
use Rattle.dr_meaning.specs.Schema.{repeated_fields, depth, shape_depth}
use Rattle.dr_nested.specs.Views.{shape_view, fields_view}
use Rattle.dr_walk.proofs.counting.+counting.Given as goal

abbrev pub decreases-count_repeated : goal.decreases-count_repeated
decreases-count_repeated l = 2 * shape_depth (shape_view (l.field.now).shape) + 1

abbrev pub decreases-count_in_group : goal.decreases-count_in_group
decreases-count_in_group l = 2 * depth (fields_view (l.fields.now).items)

-- those counted, with those of the fields from here on, are all
abbrev pub invariant-count_in_group-fields : goal.invariant-count_in_group-fields
invariant-count_in_group-fields l = l.count + repeated_fields (fields_view (drop l.field-index l.fields.items)) ≡ repeated_fields (fields_view l.fields.items)
