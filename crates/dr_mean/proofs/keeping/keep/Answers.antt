use Rattle.std.proofs.Common.{◌≡◌, ◌≢◌, ◌∙◌, sym, ap, arith, rules, List, length, map}
use Rattle.std.specs.Prelude.{vec_len}
use Rattle.dr_meaning.specs.Path.{Step}
use Rattle.dr_meaning.specs.Kept.{kept_along}
use Rattle.dr_nested.specs.PathView.{step_view}
use Rattle.dr_nested.specs.Views.{node_view}
use Rattle.dr_plan.specs.Planned.{plan_leaves}
use Rattle.dr_rows.proofs.PruningLemmas.{not_empty}
use Rattle.dr_scalar.specs.Tests.{all_true}
use Rattle.dr_paths.specs.Chains.{expressions_chain}
use Rattle.dr_mean.specs.Condition.{plan_tests}
use Rattle.dr_mean.proofs.ConditionLemmas.{kept_by_tests}
use Rattle.dr_mean.proofs.keeping.keep.Goals as goal

pub returns : goal.returns
returns c =
    let plan = c.args.plan.now in
    let n = node_view c.args.whole.now in
    let test = all_true (plan_tests plan) in
    let some : length plan.test.items ≢ 0 = not_empty (length plan.test.items) (vec_len plan.test) c.is_empty.result (omega (arith, plan.test.ok.0)) c.is_empty.ensures c.if-is_empty.false in
    let chain : map step_view c.tests_chain-chain.result.now ≡ expressions_chain (plan_tests plan) = search rules in
    λ t.
    c.prune.ensures test (search rules)
    ∙ ap (λ (p : List Step). kept_along p test n) chain
    ∙ sym (kept_by_tests (plan_leaves plan) plan.test.items n some)
