use Rattle.std.proofs.Common.{◌≡◌, ◌+ℤ◌, ◌∙◌, ℤ, length, rules, ap₂, sym, true≢false, to_z, of_z}
use Rattle.std.proofs.lemmas.Bool.{eq-eqb}
use mir.Syntax.{w128}
use Rattle.dr_group.proofs.TakenLemmas.{sum_none, sum_some}
use Rattle.dr_group.proofs.taking.add_numbers.Goals as goal

pub returns-in-None : goal.returns-in-None
returns-in-None c =
    let x : to_z w128 (of_z w128 c.total_of-total.result) ≡ c.total_of-total.result = search rules in
    sum_none c.args.sum.now c.args.numbers.now _ c.in-None.is (λ z. true≢false (sym (eq-eqb (length c.args.numbers.now) 0 z) ∙ sym c.is_empty.ensures ∙ c.if-is_empty.false)) (x ∙ c.total_of-total.ensures)

pub returns-in-Some-checked_add : goal.returns-in-Some-checked_add
returns-in-Some-checked_add c =
    let x : to_z w128 (of_z w128 c.total_of-total.result) ≡ c.total_of-total.result = search rules in
    let y : to_z w128 (of_z w128 c.in-Some.so_far) ≡ c.in-Some.so_far = search rules in
    let z : to_z w128 (of_z w128 c.in-Some-checked_add.together) ≡ c.in-Some-checked_add.together = search rules in
    sum_some c.args.sum.now c.in-Some.so_far c.args.numbers.now _ c.total_of-total.result c.in-Some.is c.total_of-total.ensures
    (z ∙ c.in-Some-checked_add.ensures.1 ∙ ap₂ (λ (a b : ℤ). a +ℤ b) y x)
