use Rattle.std.proofs.Common.{◌≡◌, ◌<◌, ◌⊎◌, inl, inr, ◌∙◌, ℕ, [], sym, subst, ap, arith, length}
use Rattle.std.proofs.lemmas.Bool.{eqb-true}
use Rattle.std.proofs.lemmas.List.{nil_from_length}
use Rattle.dr_agreement.specs.AtHand.{here_of, rest_of}
use Rattle.dr_agreement.proofs.AtHandLemmas.{one_more, here_there}
use Rattle.dr_agreement.proofs.leaves_at_hand.all_passed.Goals as goal

pub leaves-preserved : goal.leaves-preserved
leaves-preserved c = λ i l.
    let xs = c.args.leaves.now in
    let at = c.leaves.at in
    let x = c.index-leaves-at.result in
    let here : here_of xs at ≡ [] = here_there xs at x c.leaves-test.true c.index-leaves-at.is ∙ nil_from_length (rest_of x) (eqb-true (length (rest_of x)) 0 (sym c.is_empty.ensures ∙ c.if-not-is_empty.false)) in
    elim (one_more i at l) [ inl k ↦ c.leaves.invariant i k | inr e ↦ subst (λ (j : ℕ). here_of xs j ≡ []) (sym e) here ]
