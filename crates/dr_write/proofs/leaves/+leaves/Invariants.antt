use Rattle.std.proofs.Common.{◌≡◌, ◌≤◌, ◌+◌, ◌++◌, drop}
use Rattle.dr_meaning.specs.Schema.{depth}
use Rattle.dr_nested.specs.Views.{fields_view}
use Rattle.dr_write.specs.Leaves.{leaves_view, way_view, fields_leaves}
use Rattle.dr_write.proofs.leaves.+leaves.Given as goal

-- the leaves of the fields from this one on are still to join, and these fields are not too deep
abbrev pub invariant-push_fields-fields : goal.invariant-push_fields-fields
invariant-push_fields-fields l =
    (leaves_view l.leaves.items ++ fields_leaves (way_view l.way) (fields_view (drop l.field-index l.fields.items)) ≡ leaves_view l.initial.leaves.items ++ fields_leaves (way_view l.way) (fields_view l.fields.items))
    × (l.way.repetition + depth (fields_view (drop l.field-index l.fields.items)) ≤ 32)
    × (l.way.definition + depth (fields_view (drop l.field-index l.fields.items)) ≤ 32)
