use Rattle.std.proofs.Common.{◌≡◌, map, take}
use Rattle.dr_nested.specs.PathView.{lent_path, paths_view}
use Rattle.dr_scan.proofs.paths.steps_of.Given as goal

abbrev pub invariant-fields : goal.invariant-fields
invariant-fields l = map lent_path l.steps.items ≡ paths_view (take l.field-index l.fields)
