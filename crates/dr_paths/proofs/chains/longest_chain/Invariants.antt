use Rattle.std.proofs.Common.{◌≡◌, map, ◌≤◌, length, drop}
use Rattle.dr_meaning.specs.Expression as expression_meaning
use Rattle.dr_nested.specs.PathView.{step_view}
use Rattle.dr_paths.specs.Views.{bound_path_view, paths_at}
use Rattle.dr_paths.proofs.chains.longest_chain.Given as goal

-- the longest level of the paths from this one on
abbrev pub invariant-paths : goal.invariant-paths
invariant-paths l = record {
  within : l.rest ≤ length l.paths;
  longest : map step_view l.longest ≡ expression_meaning.longest_chain (paths_at (map bound_path_view (drop l.rest l.paths)));
}

abbrev pub decreases-paths : goal.decreases-paths
decreases-paths l = l.rest
