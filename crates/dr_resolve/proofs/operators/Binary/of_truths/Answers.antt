use Rattle.std.proofs.Common.{ap, ◌∙◌}
use Rattle.dr_meaning.specs.Expression as meant
use Rattle.dr_plan.specs.Views.{truth_view}
use Rattle.dr_resolve.proofs.operators.Binary.of_truths.Goals as goal

pub returns-in_ok-conjunction-in-And-clause-view : goal.returns-in_ok-conjunction-in-And-clause-view
returns-in_ok-conjunction-in-And-clause-view c = λ ls. rw c.in-And.is (c.in_ok-conjunction-in-And.ensures.view ls)

pub returns-in_ok-disjunction-in-Or-clause-view : goal.returns-in_ok-disjunction-in-Or-clause-view
returns-in_ok-disjunction-in-Or-clause-view c = λ ls. rw c.in-Or.is (c.in_ok-disjunction-in-Or.ensures.view ls)

pub returns-in_ok-comparison-in-Comparison-clause-view : goal.returns-in_ok-comparison-in-Comparison-clause-view
returns-in_ok-comparison-in-Comparison-clause-view c =
    λ ls. rw c.in-Comparison.is (c.in_ok-comparison-in-Comparison.ensures.view ls ∙ ap (λ (o : meant.Comparison). meant.comparison o (truth_view ls c.args.left) (truth_view ls c.args.right)) c.comparison_of-operator.ensures)
