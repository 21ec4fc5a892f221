use Rattle.std.proofs.Common.{◌≡◌, map, drop}
use Rattle.dr_nested.specs.PathView.{step_view}
use Rattle.dr_paths.specs.Views.{bound_path_view}
use Rattle.dr_paths.proofs.RelatedLemmas.{judged}
use Rattle.dr_paths.proofs.related.first_unrelated.Given as goal

-- the paths from this one on decide
abbrev pub invariant-paths : goal.invariant-paths
invariant-paths l = judged (map step_view l.longest) (map bound_path_view l.paths) ≡ judged (map step_view l.known) (map bound_path_view (drop l.path-index l.paths))
