use Rattle.std.proofs.Common.{◌≡◌, ◌∙◌, ◌<◌, ◌+◌, ℕ, List, length, map, ap, sym, subst, arith}
use Rattle.dr_meaning.specs.Column.{Triplet}
use Rattle.dr_meaning.specs.OneColumn.{starts}
use Rattle.dr_levels.specs.Views.{triplets_view}
use Rattle.dr_levels.specs.declared.triplets.Triplets.{Triplets}
use Rattle.dr_moves.specs.Leading.{columns_of}
use Rattle.dr_agreement.specs.AtHand.{here_of, ends_of, rest_of, IsFrontOf}
use Rattle.dr_agreement.proofs.AtHandLemmas.{here_there, whole_begun, front_pushed}
use Rattle.dr_agreement.proofs.leaves_at_hand.fronts_of.Goals as goal

pub front-requires : goal.front-requires
front-requires c =
    let xs = c.args.leaves.now in
    let at = c.leaves.at in
    let x = c.index-leaves-at.result in
    let few = c.requires at c.leaves-test.true in
    let w = whole_begun (ends_of xs at) (starts (here_of xs at)) in
    let e : starts (here_of xs at) ≡ starts (rest_of x) = ap starts (here_there xs at x c.leaves-test.true c.index-leaves-at.is) in
    omega (arith, few, w, e)

pub leaves-preserved : goal.leaves-preserved
leaves-preserved c =
    let xs = c.args.leaves.now in
    let at = c.leaves.at in
    let x = c.index-leaves-at.result in
    let n = c.args.records in
    let here : IsFrontOf n (here_of xs at) (triplets_view c.front.result) = subst (λ (ts : List Triplet). IsFrontOf n ts (triplets_view c.front.result)) (sym (here_there xs at x c.leaves-test.true c.index-leaves-at.is)) c.front.ensures in
    record {
      as_many = omega (arith, c.in_ok-push.ensures.len, c.push.new.self.ok.0, c.leaves.fronts.ok.0, c.leaves.invariant.as_many);
      each = λ i l. subst (λ (cs : List Triplets). IsFrontOf n (here_of xs i) (columns_of (map triplets_view cs) i)) (sym c.in_ok-push.ensures.items)
          (front_pushed c.leaves.fronts.items c.front.result (here_of xs) (IsFrontOf n) at i c.leaves.invariant.as_many c.leaves.invariant.each here l);
    }
