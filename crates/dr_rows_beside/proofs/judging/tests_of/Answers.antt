use Rattle.std.proofs.Common.{◌≡◌, ◌∙◌, sym, ap, subst, List, length, arith, take, ◌++◌, [], ◌∷◌, get_or, ◌<◌}
use Rattle.dr_nested.specs.PathView.{paths_view}
use Rattle.dr_plan.specs.declared.expression.Truth.{Truth}
use Rattle.std.specs.List.{list_all}
use Rattle.dr_nested.specs.declared.path.Path.{Path}
use Rattle.dr_scalar.specs.Leaves.{truth_leaves}
use Rattle.dr_rows_beside.specs.Sources.{is_numbered}
use Rattle.dr_rows_beside.specs.Makings.{AreMadeOf, reading}
use Rattle.dr_rows_beside.proofs.MakingLemmas.{test_there, reading_more}
use Rattle.dr_rows_beside.proofs.judging.tests_of.Goals as goal

pub push_test-requires : goal.push_test-requires
push_test-requires c =
    let e : c.deref-truth-items.result.now ≡ c.args.plan.now.test.items = c.deref-truth-items.ensures.value in
    let i = c.tests.truth-index in
    let k : i < length c.args.plan.now.test.items = omega (arith, c.tests-test.true, ap (λ (ts : List Truth). length ts) e) in
    ap (λ (ps : List Path). list_all (is_numbered (length ps)) (truth_leaves c.truth-item.result)) c.deref.ensures.value
    ∙ test_there c.args.plan.now.leaves.items c.args.plan.now.test.items i c.truth-item.result c.args.plan.now.tested k (c.truth-item.is ∙ ap (λ (ts : List Truth). get_or ts i c.truth-item.result) e)

pub tests-preserved : goal.tests-preserved
tests-preserved c =
    let e : c.deref-truth-items.result.now ≡ c.args.plan.now.test.items = c.deref-truth-items.ensures.value in
    let i = c.tests.truth-index in
    let ts = c.args.plan.now.test.items in
    let F = paths_view c.args.plan.now.leaves.items in
    let k : i < length ts = omega (arith, c.tests-test.true, ap (λ (us : List Truth). length us) e) in
    let x : c.truth-item.result ≡ get_or ts i c.truth-item.result = c.truth-item.is ∙ ap (λ (us : List Truth). get_or us i c.truth-item.result) e in
    subst (λ (us : List Truth). AreMadeOf F us c.push_test.new.out.items) (sym (reading_more ts i c.truth-item.result k x))
    (subst (λ (ps : List Path). AreMadeOf (paths_view ps) (reading (take i ts) ++ reading (c.truth-item.result ∷ [])) c.push_test.new.out.items) c.deref.ensures.value
    (c.in_ok-push_test.ensures (reading (take i ts)) (subst (λ (ps : List Path). AreMadeOf (paths_view ps) (reading (take i ts)) c.tests.made.items) (sym c.deref.ensures.value) c.tests.invariant)))
