use Rattle.std.proofs.Common.{◌≡◌, ◌+ℤ◌, ◌≤ℤ◌, ◌∙◌, ◌+◌, ◌*◌, ℤ, get_or, pos, neg_ℤ, arith, rules, ap, sym, subst, to_z, of_z}
use mir.Syntax.{w64, w128}
use Rattle.std.proofs.lemmas.Int.{ints}
use Rattle.dr_group.proofs.TakenLemmas.{sum_more, still_within}
use Rattle.dr_group.proofs.taking.total_of.Goals as goal

pub numbers-preserved : goal.numbers-preserved
numbers-preserved c =
    let i = c.numbers.number-index in
    let T : ℤ = to_z w128 c.numbers.total-bits in
    let z : ℤ = get_or c.args.numbers.now i (pos 0) in
    let x : to_z w64 (of_z w64 z) ≡ z = search rules in
    let y : to_z w128 (of_z w128 c.from-total.result) ≡ c.from-total.result = search rules in
    let e : to_z w128 (of_z w128 c.from-total.result) ≡ z = y ∙ c.from-total.ensures ∙ x in
    let u : to_z w128 (of_z w128 (T +ℤ to_z w128 (of_z w128 c.from-total.result))) ≡ T +ℤ to_z w128 (of_z w128 c.from-total.result) = search rules in
    let v : to_z w128 (of_z w128 (T +ℤ to_z w128 (of_z w128 c.from-total.result))) ≡ T +ℤ z = u ∙ ap (λ (n : ℤ). T +ℤ n) e in
    let w : (neg_ℤ (pos (9223372036854775808 * (i + 1))) ≤ℤ (T +ℤ z)) × ((T +ℤ z) ≤ℤ pos (9223372036854775808 * (i + 1))) =
    still_within T z i c.numbers.invariant.above c.numbers.invariant.below (omega (arith, ints)) (omega (arith, ints)) in
    record {
      put = sum_more c.args.numbers.now i T _ c.numbers-test.true v c.numbers.invariant.put;
      above = subst (λ (n : ℤ). neg_ℤ (pos (9223372036854775808 * (i + 1))) ≤ℤ n) (sym v) w.0;
      below = subst (λ (n : ℤ). n ≤ℤ pos (9223372036854775808 * (i + 1))) (sym v) w.1;
    }
