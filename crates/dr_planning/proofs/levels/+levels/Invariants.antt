use Rattle.std.proofs.Common.{◌≡◌, map, drop}
use Rattle.dr_nested.specs.PathView.{step_view}
use Rattle.dr_nested.specs.Views.{fields_view}
use Rattle.dr_planning.specs.NamedLevels.{append_named, fields_named, levels_view}
use Rattle.dr_planning.proofs.levels.+levels.Given as goal

-- the levels of the fields from this one on are still to join
abbrev pub invariant-push_fields-fields : goal.invariant-push_fields-fields
invariant-push_fields-fields l =
    append_named (levels_view l.levels.items) (fields_named (fields_view (drop l.place l.fields.items)) l.place l.names (map step_view l.path))
    ≡ append_named (levels_view l.initial.levels.items) (fields_named (fields_view l.fields.items) 0 l.names (map step_view l.path))
