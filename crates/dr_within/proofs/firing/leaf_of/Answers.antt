use Rattle.std.proofs.Common.{◌∙◌, ap, ap₂, sym}
use Rattle.dr_scalar.specs.Leaves.{greater, expr_leaves}
use Rattle.dr_scalar.proofs.LastLemmas.{greatest_append}
use Rattle.dr_within.specs.Takings.{fires_at, taking_view}
use Rattle.dr_within.specs.declared.taking.Taking.{Taking}
use Rattle.dr_within.proofs.firing.leaf_of.Goals as goal

pub returns-in-Value : goal.returns-in-Value
returns-in-Value c =
    let keys = c.args.keys.now in
    let e = c.in-Value.expression.now in
    c.later.ensures
    ∙ (ap₂ greater c.last_of-in-Value.ensures c.last_leaf.ensures
    ∙ (sym (greatest_append keys (expr_leaves e)) ∙ ap (λ (t : Taking). fires_at keys (taking_view t)) (sym c.in-Value.is)))
