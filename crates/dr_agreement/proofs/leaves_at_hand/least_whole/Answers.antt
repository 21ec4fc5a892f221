use Rattle.std.proofs.Common.{◌≡◌, ◌<◌, ◌≤◌, ◌⊎◌, inl, inr, ◌∙◌, ℕ, sym, subst, ap, arith, length}
use Rattle.dr_agreement.specs.AtHand.{whole_at}
use Rattle.dr_agreement.proofs.AtHandLemmas.{whole_there, least_more}
use Rattle.dr_agreement.proofs.leaves_at_hand.least_whole.Goals as goal

pub leaves-preserved : goal.leaves-preserved
leaves-preserved c =
    let xs = c.args.leaves.now in
    let at = c.leaves.at in
    let x = c.index-leaves-at.result in
    let w : whole_at xs at ≡ c.whole.result = whole_there xs at x c.leaves-test.true c.index-leaves-at.is ∙ sym c.whole.ensures in
    let m = least_more xs c.args.most c.leaves.least at c.whole.result c.min-least.result c.leaves-test.true w c.min-least.ensures c.leaves.invariant.within c.leaves.invariant.each c.leaves.invariant.reached in
    record { within = m.0; each = m.1; reached = m.2 }
