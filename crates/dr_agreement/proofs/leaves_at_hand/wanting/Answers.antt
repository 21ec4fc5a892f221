use Rattle.std.proofs.Common.{◌≡◌, inl, inr, ◌∙◌, ℕ, true, sym, subst, ap}
use Rattle.dr_agreement.specs.AtHand.{ends_of, whole_at}
use Rattle.dr_agreement.proofs.AtHandLemmas.{one_more, end_there, whole_there}
use Rattle.dr_agreement.proofs.leaves_at_hand.wanting.Goals as goal

pub leaves-preserved : goal.leaves-preserved
leaves-preserved c = λ i l z.
    let xs = c.args.leaves.now in
    let at = c.leaves.at in
    let x = c.index-leaves-at.result in
    let here : whole_at xs at ≡ 0 → ends_of xs at ≡ true = λ w.
    end_there xs at x c.leaves-test.true c.index-leaves-at.is ∙ c.wants_more.ensures.none c.if-wants_more.false (sym (whole_there xs at x c.leaves-test.true c.index-leaves-at.is) ∙ w) in
    elim (one_more i at l) [ inl k ↦ c.leaves.invariant i k z | inr e ↦ subst (λ (j : ℕ). ends_of xs j ≡ true) (sym e) (here (ap (whole_at xs) (sym e) ∙ z)) ]
