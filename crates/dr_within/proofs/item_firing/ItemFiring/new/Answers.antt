use Rattle.std.proofs.Common.{◌≡◌, ◌∙◌, ◌+◌, ◌∷◌, ◌++◌, [], List, length, take, ap, sym, subst, refl, arith}
use Rattle.std.proofs.lemmas.List.{take_more, length-take-le}
use Rattle.dr_plan.specs.declared.plan.RecordItem.{RecordItem}
use Rattle.dr_within.specs.ItemFirings.{FiresItems}
use Rattle.dr_within.proofs.item_firing.ItemFiring.new.Goals as goal

pub items-init : goal.items-init
items-init c = record { place = refl; fires = c.in_ok-firing.ensures }

pub items-preserved : goal.items-preserved
items-preserved c =
    let items = c.args.items.now in
    let k = c.items.item-index in
    let i = c.item-item.result in
    let long : length (take k items) ≡ k = length-take-le k items (omega (arith, c.items-test.true)) in
    let n : c.in-Ok.number ≡ length (take k items) = omega (arith, c.in-Ok.ensures, c.items.invariant.place, long) in
    let more : take k items ++ i ∷ [] ≡ take (k + 1) items = ap (λ (x : RecordItem). take k items ++ x ∷ []) c.item-item.is ∙ sym (take_more items k i c.items-test.true) in
    record {
      place = omega (arith, c.items.invariant.place);
      fires = subst (λ (xs : List RecordItem). FiresItems c.args.leaves xs c.add.new.self) more (c.in_ok-add.ensures c.args.leaves (take k items) c.items.invariant.fires n);
    }
