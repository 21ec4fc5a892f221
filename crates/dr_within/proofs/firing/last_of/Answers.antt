use Rattle.std.proofs.Common.{◌∙◌, ap, sym, get_or, Option, Some, ℕ}
use Rattle.dr_scalar.specs.Leaves.{greater}
use Rattle.dr_within.proofs.FiringLemmas.{greatest_more}
use Rattle.dr_within.proofs.firing.last_of.Goals as goal

pub leaves-preserved : goal.leaves-preserved
leaves-preserved c =
    let ks = c.args.leaves.now in
    let i = c.leaves.leaf-index in
    c.later-last.ensures ∙ (ap (λ (o : Option ℕ). greater o (Some (get_or ks i 0))) c.leaves.invariant ∙ sym (greatest_more ks i c.leaves-test.true))
