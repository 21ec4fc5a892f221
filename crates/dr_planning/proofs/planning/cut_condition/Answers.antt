use Rattle.std.proofs.Common.{◌≡◌, List, map, true, Option, Some, sym, subst}
use Rattle.std.specs.Prelude.{IfOk, option_map}
use Rattle.std.specs.List.{list_all}
use Rattle.dr_meaning.specs.Path.{Leaf}
use Rattle.dr_plan.specs.Conjuncts.{conjuncts, joining_from}
use Rattle.dr_plan.specs.Views.{joining_view, truth_view}
use Rattle.dr_plan.specs.Fitting.{truth_fits}
use Rattle.dr_plan.specs.declared.expression.Truth.{Truth}
use Rattle.dr_resolve.specs.declared.bound.BoundCondition.{BoundCondition}
use Rattle.dr_planning.specs.Planning.{condition_conjuncts, condition_joining, condition_fits}
use Rattle.dr_planning.proofs.planning.cut_condition.Goals as goal

pub returns-in-Some-clause-view : goal.returns-in-Some-clause-view
returns-in-Some-clause-view c =
    subst (λ (o : Option BoundCondition). IfOk c.conjuncts.result (λ v. (ls : List Leaf) → map (truth_view ls) v.test.items ≡ condition_conjuncts ls o)) (sym c.in-Some.is)
    (subst (λ (t : Truth). IfOk c.conjuncts.result (λ v. (ls : List Leaf) → map (truth_view ls) v.test.items ≡ conjuncts (truth_view ls t))) c.into_inner.ensures c.conjuncts.ensures.view)

pub returns-in-Some-clause-fits : goal.returns-in-Some-clause-fits
returns-in-Some-clause-fits c =
    subst (λ (o : Option BoundCondition). IfOk c.conjuncts.result (λ v. (ls : List Leaf) → condition_fits ls o ≡ true → list_all (truth_fits ls) v.test.items ≡ true)) (sym c.in-Some.is)
    (subst (λ (t : Truth). IfOk c.conjuncts.result (λ v. (ls : List Leaf) → truth_fits ls t ≡ true → list_all (truth_fits ls) v.test.items ≡ true)) c.into_inner.ensures c.conjuncts.ensures.fits)

pub returns-in-Some-clause-joining : goal.returns-in-Some-clause-joining
returns-in-Some-clause-joining c =
    subst (λ (o : Option BoundCondition). IfOk c.conjuncts.result (λ v. (ls : List Leaf) → option_map joining_view v.joining ≡ condition_joining ls o)) (sym c.in-Some.is)
    (subst (λ (t : Truth). IfOk c.conjuncts.result (λ v. (ls : List Leaf) → option_map joining_view v.joining ≡ Some (joining_from 0 (truth_view ls t)))) c.into_inner.ensures c.conjuncts.ensures.joining)
