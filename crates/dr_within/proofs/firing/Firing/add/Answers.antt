use Rattle.std.proofs.Common.{◌≡◌, ◌<◌, ◌≤◌, ◌∙◌, ◌∷◌, ◌++◌, [], ℕ, List, Option, Some, None, length, ap, sym, refl, arith}
use Rattle.std.proofs.lemmas.List.{map_push, length-set}
use Rattle.dr_within.specs.Takings.{Take, taking_view, takings_view, fires_at, same_leaf}
use Rattle.dr_within.proofs.FiringLemmas.{fires_there, fires_elsewhere, add_at, add_past}
use Rattle.dr_within.proofs.firing.Firing.add.Goals as goal

pub returns-in_ok-push-in-None : goal.returns-in_ok-push-in-None
returns-in_ok-push-in-None c =
    let keys = c.args.keys.now in
    let t = taking_view c.args.taking in
    let at : fires_at keys t ≡ None = sym c.in-None.ensures in
    λ n ts h. record {
      count = h.count;
      leaf = λ i l. h.leaf i l ∙ sym (fires_elsewhere keys (Some i) ts t (ap (λ (o : Option ℕ). same_leaf o (Some i)) at));
      end = ap takings_view c.in_ok-push-in-None.ensures.items ∙ (map_push taking_view c.args.self.now.at_end.items c.args.taking
          ∙ (ap (λ (xs : List Take). xs ++ t ∷ []) h.end ∙ sym (fires_there keys None ts t (ap (λ (o : Option ℕ). same_leaf o None) at))));
    }

pub returns-in_ok-push-in-Some : goal.returns-in_ok-push-in-Some
returns-in_ok-push-in-Some c =
    let keys = c.args.keys.now in
    let t = taking_view c.args.taking in
    let vs = c.args.self.now.at_leaf in
    let k = c.in-Some.leaf in
    let v = c.index_mut.result.now in
    let w = c.push-then-at-len.new.self in
    let at : fires_at keys t ≡ Some k = sym c.in-Some.ensures in
    let there : k < length vs.items = omega (arith, c.if-at-len.true, c.len.ensures, vs.ok.0) in
    λ n ts h. record {
      count = length-set vs.items k w ∙ h.count;
      leaf = λ i l. add_at keys ts t vs.items k v w c.args.taking there c.index_mut.ensures.value c.in_ok-push-in-Some.ensures.items at refl
          (λ j m. h.leaf j (omega (arith, h.count, m))) i (omega (arith, h.count, l));
      end = h.end ∙ sym (fires_elsewhere keys None ts t (ap (λ (o : Option ℕ). same_leaf o None) at));
    }

pub returns-else-at-len : goal.returns-else-at-len
returns-else-at-len c =
    let keys = c.args.keys.now in
    let t = taking_view c.args.taking in
    let vs = c.args.self.now.at_leaf in
    let k = c.in-Some.leaf in
    let at : fires_at keys t ≡ Some k = sym c.in-Some.ensures in
    λ n ts h.
    let past : n ≤ k = omega (arith, c.if-at-len.false, c.len.ensures, vs.ok.0, h.count) in
    record {
      count = h.count;
      leaf = λ i l. h.leaf i l ∙ add_past keys ts t k n past at i l;
      end = h.end ∙ sym (fires_elsewhere keys None ts t (ap (λ (o : Option ℕ). same_leaf o None) at));
    }
