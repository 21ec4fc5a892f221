use Rattle.std.proofs.Common.{◌≡◌, ◌∙◌, ℕ, suc, List, take, drop, map, get_or, sym, ap, ap₂, arith, true, false}
use Rattle.dr_levels.specs.Views.{levels_pair}
use Rattle.dr_levels.specs.declared.triplet.Levels.{Levels}
use Rattle.dr_agreement.specs.Alone.{each_may_stand}
use Rattle.dr_agreement.proofs.ShallowLemmas.{stand_front, stand_back}
use Rattle.dr_agreement.proofs.shallow.Shallow.each_may_stand.Goals as goal

pub returns-then-not-few_may_stand : goal.returns-then-not-few_may_stand
returns-then-not-few_may_stand c = λ p h.
    let b = c.pieces.before in
    let ls = c.pieces.rest.now in
    let t : each_may_stand p b (map levels_pair (take 224 ls)) ≡ false =
    ap (λ (xs : List Levels). each_may_stand p b (map levels_pair xs)) (sym c.split_at.ensures.front) ∙ (sym (c.few_may_stand.ensures p h) ∙ c.if-not-few_may_stand.true) in
    sym (c.pieces.invariant p h ∙ stand_front p b 224 ls t)

pub pieces-preserved : goal.pieces-preserved
pieces-preserved c = λ p h.
    let b = c.pieces.before in
    let ls = c.pieces.rest.now in
    let d : Levels = record { repetition = 0; definition = 0 } in
    let n : 224 ≡ suc 223 = omega arith in
    let t : each_may_stand p b (map levels_pair (take (suc 223) ls)) ≡ true =
    ap (λ (k : ℕ). each_may_stand p b (map levels_pair (take k ls))) (sym n) ∙ (ap (λ (xs : List Levels). each_may_stand p b (map levels_pair xs)) (sym c.split_at.ensures.front) ∙ (sym (c.few_may_stand.ensures p h) ∙ c.if-not-few_may_stand.false)) in
    c.pieces.invariant p h ∙ (stand_back p b 223 ls d (omega (arith, c.pieces-test.true)) t
    ∙ ap₂ (λ (xs ys : List Levels). each_may_stand p (get_or xs 223 d).definition (map levels_pair ys)) (ap (λ (k : ℕ). take k ls) (sym n) ∙ sym c.split_at.ensures.front) (ap (λ (k : ℕ). drop k ls) (sym n) ∙ sym c.split_at.ensures.back))
