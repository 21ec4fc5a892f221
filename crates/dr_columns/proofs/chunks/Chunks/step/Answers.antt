use Rattle.std.proofs.Common.{◌≡◌, ◌<◌, ◌∙◌, ◌⊎◌, inl, inr, ℕ, List, length, false, true, ap, sym, subst, arith}
use Rattle.dr_agreement.specs.AtHand.{here_of, ends_of, whole_at}
use Rattle.dr_agreement.specs.declared.at_hand.AtHand.{AtHand}
use Rattle.dr_columns.specs.Chunks.{ComesTo}
use Rattle.dr_columns.proofs.StepLemmas.{leaf_paths, none_comes, none_over}
use Rattle.dr_columns.proofs.chunks.Chunks.step.Goals as goal

pub wants-requires : goal.wants-requires
wants-requires c = subst (λ (xs : List AtHand). c.in-Some.leaf < length xs) c.deref.ensures.value (c.wanting.ensures.some c.in-Some.leaf c.in-Some.is).0

pub returns-in-Some-clause-step : goal.returns-in-Some-clause-step
returns-in-Some-clause-step c = λ s p rows given R h.
    let x = c.args.self.now in
    let w = c.wanting.ensures.some c.in-Some.leaf c.in-Some.is in
    let l : c.in-Some.leaf < length x.leaves.items = subst (λ (xs : List AtHand). c.in-Some.leaf < length xs) c.deref.ensures.value w.0 in
    let e : ends_of x.leaves.items c.in-Some.leaf ≡ false = ap (λ (xs : List AtHand). ends_of xs c.in-Some.leaf) (sym c.deref.ensures.value) ∙ w.1 in
    elim c.wants.ensures [
      | inl q ↦ subst (ComesTo s p rows given x) (sym q) (R, h, (let n = h.for_plan.as_many in omega (arith, l, n)))
      | inr q ↦ subst (ComesTo s p rows given x) (sym q) (R, h, (let n = h.for_plan.as_many in omega (arith, l, n)), e)
    ]

pub returns-then-self-gt0-clause-step : goal.returns-then-self-gt0-clause-step
returns-then-self-gt0-clause-step c = λ s p rows given R h.
    let x = c.args.self.now in
    let xs = x.leaves.items in
    let z : c.least_whole-records.result ≡ 0 = omega (arith, c.if-records-gt0.false) in
    let r = subst (λ (n : ℕ). (n ≡ c.min.result) ⊎ ((i : ℕ) × (i < length xs) × (whole_at xs i ≡ n))) z
    (subst (λ (ys : List AtHand). (c.least_whole-records.result ≡ c.min.result) ⊎ ((i : ℕ) × (i < length ys) × (whole_at ys i ≡ c.least_whole-records.result))) c.deref-2.ensures.value c.least_whole-records.ensures.reached) in
    none_comes s p rows given R xs x.records c.min.result h.behind (leaf_paths s p R x.scan h.taken) h.for_plan.as_many c.if-self-gt0.true (omega (arith, c.min.ensures, c.if-self-gt0.true)) r
    (subst (λ (ys : List AtHand). (i : ℕ) → i < length ys → whole_at ys i ≡ 0 → ends_of ys i ≡ true) c.deref.ensures.value (c.wanting.ensures.none c.in_default.is))

pub returns-else-all_passed-clause-step : goal.returns-else-all_passed-clause-step
returns-else-all_passed-clause-step c = λ s p rows given R h.
    let x = c.args.self.now in
    none_over s p rows given R x.leaves.items x.records h.behind (leaf_paths s p R x.scan h.taken) h.for_plan.as_many (omega (arith, c.if-self-gt0.false))
    (subst (λ (ys : List AtHand). (i : ℕ) × (i < length ys) × (0 < length (here_of ys i))) c.deref-3.ensures.value (c.all_passed.ensures.some c.if-all_passed.false))
