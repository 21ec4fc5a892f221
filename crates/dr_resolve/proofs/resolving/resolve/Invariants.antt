use Rattle.std.proofs.Common.{◌≡◌, map, drop, option_map}
use Rattle.dr_meaning.specs.Path.{resolve, find_path}
use Rattle.dr_nested.specs.Views.{fields_view}
use Rattle.dr_nested.specs.PathView.{step_view}
use Rattle.dr_nested.specs.Finding.{behind}
use Rattle.dr_resolve.specs.Resolved.{end_view}
use Rattle.dr_resolve.proofs.resolving.resolve.Given as goal
use Rattle.dr_sql.specs.Views.{lent}

-- the names from here on lead on from what was found
abbrev pub invariant-names : goal.invariant-names
invariant-names l = option_map (behind (map step_view l.steps.items)) (resolve (map lent (drop l.name-index l.names)) (end_view l.end)) ≡ find_path (map lent l.names) (fields_view l.fields.items)
