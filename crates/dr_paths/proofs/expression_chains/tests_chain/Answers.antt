use Rattle.std.proofs.Common.{◌∙◌, sym, ap, map}
use Rattle.std.proofs.lemmas.List.Folds.{flat_map-map}
use Rattle.dr_meaning.specs.Expression.{paths_of, longest_chain}
use Rattle.dr_nested.specs.PathView.{step_view, path_view}
use Rattle.dr_plan.specs.Views.{truth_view}
use Rattle.dr_plan.specs.declared.expression.Truth.{Truth}
use Rattle.dr_paths.proofs.LongestLemmas.{level_more, level_all, level_start}
use Rattle.dr_paths.proofs.expression_chains.tests_chain.Goals as goal

pub tests-init : goal.tests-init
tests-init c = level_start (λ (t : Truth). paths_of (truth_view (map path_view c.args.leaves.now) t)) c.args.tests.now

pub tests-preserved : goal.tests-preserved
tests-preserved c =
    level_more (λ (t : Truth). paths_of (truth_view (map path_view c.args.leaves.now) t)) c.args.tests.now c.tests.test-index c.test-item.result (map step_view c.tests.longest.now) _ _ c.tests-test.true c.test-item.is
    c.truth_chain.ensures c.longer-longest.ensures ∙ c.tests.invariant

pub returns : goal.returns
returns c =
    let view = truth_view (map path_view c.args.leaves.now) in
    sym (level_all (λ (t : Truth). paths_of (view t)) c.args.tests.now c.tests.test-index (map step_view c.tests.longest.now) c.tests-test.false) ∙ c.tests.invariant
    ∙ ap longest_chain (sym (flat_map-map paths_of view c.args.tests.now))
