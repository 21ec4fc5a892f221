use Rattle.std.proofs.Common.{◌∙◌, ◌++◌, ◌&&◌, List, Some, ap, length, map}
use Rattle.std.specs.List.{list_all}
use Rattle.dr_meaning.specs.Path.{Leaf}
use Rattle.dr_plan.specs.Conjuncts.{Joining, conjuncts, joining_from}
use Rattle.dr_plan.specs.Fitting.{truth_fits}
use Rattle.dr_plan.specs.Views.{truth_view}
use Rattle.dr_plan.specs.declared.expression.Truth.{Truth}
use Rattle.dr_plan.proofs.condition.conjuncts.Goals as goal

pub returns-clause-view : goal.returns-clause-view
returns-clause-view c =
    λ (ls : List Leaf). c.in_ok-joining.ensures.view ls
    ∙ ap (λ (ts : List Truth). map (truth_view ls) ts ++ conjuncts (truth_view ls c.args.condition)) c.new-test.ensures.items

pub returns-clause-fits : goal.returns-clause-fits
returns-clause-fits c =
    λ ls h. c.in_ok-joining.ensures.fits ls
    ∙ (ap (λ (ts : List Truth). list_all (truth_fits ls) ts && truth_fits ls c.args.condition) c.new-test.ensures.items ∙ h)

pub returns-clause-joining : goal.returns-clause-joining
returns-clause-joining c =
    λ (ls : List Leaf). ap (λ (j : Joining). Some j) (c.in_ok-joining.ensures.joining ls
    ∙ ap (λ (ts : List Truth). joining_from (length ts) (truth_view ls c.args.condition)) c.new-test.ensures.items)
