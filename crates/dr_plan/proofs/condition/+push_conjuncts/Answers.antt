use Rattle.std.proofs.Common.{◌≡◌, ◌∙◌, ◌++◌, ◌&&◌, List, map, length}
use Rattle.std.specs.List.{list_all}
use Rattle.std.proofs.lemmas.Result.{IfOk-weaker}
use Rattle.dr_meaning.specs.Path.{Leaf}
use Rattle.dr_plan.specs.Conjuncts as meant
use Rattle.dr_plan.specs.Fitting.{truth_fits}
use Rattle.dr_plan.specs.Views.{joining_view, truth_view}
use Rattle.dr_plan.specs.declared.joining.Joining.{Joining}
use Rattle.dr_plan.proofs.CuttingLemmas.{both_parts, both_fit, both_joined, part_pushed, fit_pushed, number_joined, on_ok}
use Rattle.dr_plan.proofs.condition.+push_conjuncts.Goals as goal

pub returns-in_ok-right-in-And-clause-view : goal.returns-in_ok-right-in-And-clause-view
returns-in_ok-right-in-And-clause-view t c =
    on_ok c.and.result ((ls : List Leaf) → map (truth_view ls) c.push_conjuncts-in-And.new.test.items ≡ map (truth_view ls) c.args.test.now.items ++ meant.conjuncts (truth_view ls c.args.condition))
    (λ ls. both_parts ls c.args.condition c.in-And.left c.in-And.right c.into_inner.result c.into_inner-in-And.result c.args.test.now.items c.push_conjuncts.new.test.items c.push_conjuncts-in-And.new.test.items
    c.in-And.is c.into_inner.ensures c.into_inner-in-And.ensures (c.in_ok-left-in-And.ensures.view ls) (c.in_ok-right-in-And.ensures.view ls))

pub returns-in_ok-right-in-And-clause-fits : goal.returns-in_ok-right-in-And-clause-fits
returns-in_ok-right-in-And-clause-fits t c =
    on_ok c.and.result ((ls : List Leaf) → list_all (truth_fits ls) c.push_conjuncts-in-And.new.test.items ≡ (list_all (truth_fits ls) c.args.test.now.items && truth_fits ls c.args.condition))
    (λ ls. both_fit ls c.args.condition c.in-And.left c.in-And.right c.into_inner.result c.into_inner-in-And.result c.args.test.now.items c.push_conjuncts.new.test.items c.push_conjuncts-in-And.new.test.items
    c.in-And.is c.into_inner.ensures c.into_inner-in-And.ensures (c.in_ok-left-in-And.ensures.fits ls) (c.in_ok-right-in-And.ensures.fits ls))

pub returns-in_ok-right-in-And-clause-joining : goal.returns-in_ok-right-in-And-clause-joining
returns-in_ok-right-in-And-clause-joining t c =
    let l = joining_view c.in_ok-left-in-And.left in
    let r = joining_view c.in_ok-right-in-And.right in
    IfOk-weaker c.and.result (λ (j : Joining). joining_view j ≡ meant.by_and l r)
    (λ (j : Joining). (ls : List Leaf) → joining_view j ≡ meant.joining_from (length c.args.test.now.items) (truth_view ls c.args.condition))
    (λ j k ls. both_joined ls c.args.condition c.in-And.left c.in-And.right c.into_inner.result c.into_inner-in-And.result c.args.test.now.items c.push_conjuncts.new.test.items l r (joining_view j)
    c.in-And.is c.into_inner.ensures c.into_inner-in-And.ensures (c.in_ok-left-in-And.ensures.view ls) (c.in_ok-left-in-And.ensures.joining ls) (c.in_ok-right-in-And.ensures.joining ls) k)
    c.and.ensures

pub returns-in_ok-push-in_default : goal.returns-in_ok-push-in_default
returns-in_ok-push-in_default t c = record {
  view = λ (ls : List Leaf). part_pushed ls c.args.condition c.args.test.now.items c.push.new.self.items c.in_default.not-And c.in_ok-push-in_default.ensures.items;
  fits = λ (ls : List Leaf). fit_pushed ls c.args.condition c.args.test.now.items c.push.new.self.items c.in_ok-push-in_default.ensures.items;
  joining = λ (ls : List Leaf). number_joined ls c.args.condition c.args.test.now.items c.len-number.result c.in_default.not-And (c.len-number.ensures ∙ c.args.test.now.ok.0);
}
