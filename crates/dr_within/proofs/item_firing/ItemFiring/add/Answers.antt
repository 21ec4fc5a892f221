use Rattle.std.proofs.Common.{◌≡◌, ◌<◌, ◌≤◌, ◌∙◌, ℕ, Option, Some, None, length, ap, sym, arith}
use Rattle.std.proofs.lemmas.List.{length-set}
use Rattle.dr_within.specs.Takings.{same_leaf}
use Rattle.dr_within.specs.ItemFirings.{taken_at}
use Rattle.dr_within.proofs.ItemFiringLemmas.{taken_elsewhere, add_place, add_nowhere}
use Rattle.dr_within.proofs.item_firing.ItemFiring.add.Goals as goal

pub returns-in_ok-push : goal.returns-in_ok-push
returns-in_ok-push c =
    let vs = c.args.self.now.at_leaf in
    let k = c.in-Some.leaf in
    let i = c.args.item.now in
    let v = c.index_mut.result.now in
    let w = c.push.new.self in
    let at : taken_at i ≡ Some k = sym c.taken_at.ensures ∙ c.in-Some.is in
    let there : k < length vs.items = omega (arith, c.if-at-len.true, c.len.ensures, vs.ok.0) in
    λ n items h p. record {
      count = length-set vs.items k w ∙ h.count;
      leaf = λ j l. add_place items i vs.items k c.args.place v w there c.index_mut.ensures.value c.in_ok-push.ensures.items at p
          (λ x m. h.leaf x (omega (arith, h.count, m))) j (omega (arith, h.count, l));
    }

pub returns-else-at-len : goal.returns-else-at-len
returns-else-at-len c =
    let vs = c.args.self.now.at_leaf in
    let k = c.in-Some.leaf in
    let i = c.args.item.now in
    let at : taken_at i ≡ Some k = sym c.taken_at.ensures ∙ c.in-Some.is in
    λ n items h p.
    let past : n ≤ k = omega (arith, c.if-at-len.false, c.len.ensures, vs.ok.0, h.count) in
    record { count = h.count; leaf = λ j l. h.leaf j l ∙ add_nowhere items i k n past at j l }

pub returns-in_default : goal.returns-in_default
returns-in_default c =
    let i = c.args.item.now in
    let at : taken_at i ≡ None = sym c.taken_at.ensures ∙ c.in_default.is in
    λ n items h p. record { count = h.count; leaf = λ j l. h.leaf j l ∙ sym (taken_elsewhere items i j (ap (λ (o : Option ℕ). same_leaf o (Some j)) at)) }
