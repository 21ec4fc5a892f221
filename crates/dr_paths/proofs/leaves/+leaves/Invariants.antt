use Rattle.std.proofs.Common.{◌≡◌, ◌≤◌, ◌+◌, ◌++◌, length, map, drop}
use Rattle.dr_meaning.specs.Schema.{depth, greatest_depth}
use Rattle.dr_nested.specs.Views.{fields_view}
use Rattle.dr_nested.specs.PathView.{path_view}
use Rattle.dr_paths.specs.Ways.{way_view, fields_leaves}
use Rattle.dr_paths.proofs.leaves.+leaves.Given as goal

-- the leaves of the fields from this one on are still to join, and these fields are not too deep
abbrev pub invariant-push_fields-fields : goal.invariant-push_fields-fields
invariant-push_fields-fields l = record {
  leaves : map path_view l.paths.items ++ fields_leaves (way_view l.way) (fields_view (drop l.place l.fields.items)) l.place ≡ map path_view l.initial.paths.items ++ fields_leaves (way_view l.way) (fields_view l.fields.items) 0;
  within : length l.way.steps.items + depth (fields_view (drop l.place l.fields.items)) ≤ greatest_depth;
}
