use Rattle.std.proofs.Common.{◌≡◌, ◌∙◌, ap, subst, List, map, length, get_or, ◌<◌, rules, arith}
use Rattle.std.proofs.lemmas.List.{length-map}
use Rattle.dr_meaning.specs.Path.{Leaf}
use Rattle.dr_nested.specs.PathView.{path_view, paths_view}
use Rattle.dr_nested.specs.declared.path.Path.{Path}
use Rattle.dr_rows_beside.specs.KeptBits.{commons}
use Rattle.dr_rows_beside.specs.declared.judging.Test.{Test}
use Rattle.dr_rows_beside.specs.declared.keeping.Keeping.{Keeping}
use Rattle.dr_rows_beside.specs.Makings.{IsLast, IsKeepingOf, reading}
use Rattle.dr_rows_beside.proofs.CommonLemmas.{reading_fits, last_there}
use Rattle.dr_rows_beside.proofs.MakingLemmas.{none_made}
use Rattle.dr_rows_beside.proofs.keeping.Keeping.of.Goals as goal

pub returns-then-is_empty-clause-none : goal.returns-then-is_empty-clause-none
returns-then-is_empty-clause-none c e =
    let none : length c.in_ok-tests.tests.items ≡ 0 = search rules in
    none_made (paths_view c.args.plan.now.leaves.items) (reading c.args.plan.now.test.items) c.in_ok-tests.tests.items none c.in_ok-tests.ensures

pub returns-clause-some : goal.returns-clause-some
returns-clause-some c k e =
    let F = paths_view c.args.plan.now.leaves.items in
    let ts = c.args.plan.now.test.items in
    let made : List Test = c.in_ok-tests.tests.items in
    let same : c.deref.result.now ≡ made = c.deref.ensures.value in
    let it : Keeping = record { own = c.remove-own.result; others = c.remove-own.new.self; commons = c.in_ok-commons.commons; above = c.in_ok-above.above; whole = c.new.result; answers = c.new-2.result } in
    let z : it ≡ k = cc in
    subst (IsKeepingOf F ts) z (record {
      tests = made;
      at = c.last_test-at.result;
      made = c.in_ok-tests.ensures;
      within = subst (λ (xs : List Test). c.last_test-at.result < length xs) same c.last_test-at.ensures.within;
      own = c.remove-own.ensures.value;
      others = c.remove-own.ensures.items;
      last = subst (λ (xs : List Test). IsLast xs (length xs) c.last_test-at.result) same c.last_test-at.ensures.last;
      commons_are = c.in_ok-commons.ensures ∙ ap (λ (ps : List Path). commons (paths_view ps) c.remove-own.result.source.leaf) c.deref-2.ensures.value;
      depths = c.in_ok-above.ensures.many;
      few = c.in_ok-above.ensures.few;
    })

pub commons_of-requires : goal.commons_of-requires
commons_of-requires c =
    let leaves : List Path = c.args.plan.now.leaves.items in
    let ls : List Leaf = map path_view leaves in
    let ts = c.args.plan.now.test.items in
    let made : List Test = c.in_ok-tests.tests.items in
    let at = c.last_test-at.result in
    let own : Test = c.remove-own.result in
    let same : c.deref.result.now ≡ made = c.deref.ensures.value in
    let within : at < length made = subst (λ (xs : List Test). at < length xs) same c.last_test-at.ensures.within in
    let e : own ≡ get_or made at own = c.remove-own.ensures.value in
    let there : (get_or made at own).source.leaf < length ls = last_there ls (paths_view leaves) (reading ts) made at own (reading_fits ls ts c.args.plan.now.tested) c.in_ok-tests.ensures within in
    omega (arith, there, ap (λ (x : Test). x.source.leaf) e, length-map leaves path_view, ap (λ (ps : List Path). length ps) c.deref-2.ensures.value)
