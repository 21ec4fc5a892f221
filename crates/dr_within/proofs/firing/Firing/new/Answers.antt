use Rattle.std.proofs.Common.{◌≡◌, ◌∙◌, ◌+◌, ◌∷◌, ◌++◌, [], ℕ, List, take, ap, subst, refl, arith}
use Rattle.dr_within.specs.Takings.{Take, take_nothing, taking_view, taking_of, aggregate_takings}
use Rattle.dr_within.specs.Firings.{Fires}
use Rattle.dr_within.proofs.FiringLemmas.{takings_more}
use Rattle.dr_within.proofs.firing.Firing.new.Goals as goal

pub aggregates-init : goal.aggregates-init
aggregates-init c = record { place = refl; fires = c.in_ok-add.ensures c.args.leaves [] (c.in_ok-firing.ensures c.args.keys.now) }

pub aggregates-preserved : goal.aggregates-preserved
aggregates-preserved c =
    let A = c.args.aggregates.now in
    let i = c.aggregates.aggregate-index in
    let a = c.aggregate-item.result in
    let before = aggregate_takings 0 (take i A) in
    let n : c.in-Ok.number ≡ i = omega (arith, c.in-Ok.ensures, c.aggregates.invariant.place) in
    let is : taking_view c.taking_of.result ≡ taking_of i a = c.taking_of.ensures ∙ ap (λ (k : ℕ). taking_of k a) n in
    let more : before ++ taking_view c.taking_of.result ∷ [] ≡ aggregate_takings 0 (take (i + 1) A) =
    ap (λ (t : Take). before ++ t ∷ []) is ∙ takings_more A i a c.aggregates-test.true c.aggregate-item.is in
    record {
      place = omega (arith, c.aggregates.invariant.place);
      fires = subst (λ (ts : List Take). Fires c.args.leaves c.args.keys.now (take_nothing ∷ ts) c.add-in-aggregates.new.self) more
          (c.in_ok-add-2.ensures c.args.leaves (take_nothing ∷ before) c.aggregates.invariant.fires);
    }
