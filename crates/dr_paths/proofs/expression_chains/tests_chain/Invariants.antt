use Rattle.std.proofs.Common.{◌≡◌, map, drop}
use Rattle.std.specs.List.{flat_map}
use Rattle.dr_meaning.specs.Path.{longer}
use Rattle.dr_meaning.specs.Expression.{paths_of, longest_chain}
use Rattle.dr_nested.specs.PathView.{step_view, path_view}
use Rattle.dr_plan.specs.Views.{truth_view}
use Rattle.dr_plan.specs.declared.expression.Truth.{Truth}
use Rattle.dr_paths.proofs.expression_chains.tests_chain.Given as goal

-- the longest of these and of those from this test on
abbrev pub invariant-tests : goal.invariant-tests
invariant-tests l =
    let paths = λ (t : Truth). paths_of (truth_view (map path_view l.leaves) t) in
    longer (map step_view l.longest) (longest_chain (flat_map paths (drop l.test-index l.tests))) ≡ longest_chain (flat_map paths l.tests)
