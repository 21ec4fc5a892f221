use Rattle.std.proofs.Common.{◌≡◌, ◌++◌, map, drop}
use Rattle.dr_nested.specs.PathView.{lent_path}
use Rattle.dr_planning.specs.Planning.{steps_at}
use Rattle.dr_planning.proofs.value_paths.push_paths.Given as goal

-- the paths from this one on are still to join
abbrev pub invariant-paths : goal.invariant-paths
invariant-paths l = map lent_path l.used.items ++ steps_at (drop l.path-index l.paths) ≡ map lent_path l.fn.used.items ++ steps_at l.paths
