use Rattle.std.proofs.Common.{◌≡◌, ◌∙◌, ℕ, List, length, drop, get_or, ap, subst, arith}
use Rattle.std.specs.Prelude.{Bool, Ok, Err}
use Rattle.std.proofs.lemmas.List.{length-map}
use Rattle.dr_levels.specs.Views.{triplets_view}
use Rattle.dr_levels.specs.declared.triplets.Triplets.{Triplets}
use Rattle.dr_walk.specs.Checking.{rest_at}
use Rattle.dr_scan.specs.Streamed.{left_at, ends_of, EndsStretch}
use Rattle.dr_scan.specs.declared.leaf_stream.LeafStream.{LeafStream}
use Rattle.dr_scan.proofs.UnderwayLemmas.{lent_scanned, at_hand, fails_at_hand, counted_rests}
use Rattle.dr_scan.proofs.streaming.make_at_hand.Goals as goal

pub make_stretch-requires : goal.make_stretch-requires
make_stretch-requires c =
    let q = c.requires in
    let xs = c.args.streams.now in
    let left = c.args.left.now in (
      q.0,
      q.1,
      q.2,
      q.3,
      q.4,
      q.5,
      lent_scanned q.0 q.1 q.2 q.3 (ends_of xs) c.deref.result.now q.4 c.args.walk.now (left_at xs left) (rest_at c.as_mut_slice-rests.result.now) c.args.making.now c.args.before.now c.in_ok-row.row (c.deref.ensures.value ∙ c.in_ok-ended.ensures)
          (λ i. ap (λ (rs : List Triplets). rest_at rs i) c.as_mut_slice-rests.ensures.value ∙ c.in_ok-held.ensures.rests i) q.6 q.7 q.8 c.in_ok-row.ensures,
    )

pub returns-in_err-end-clause-ends : goal.returns-in_err-end-clause-ends
returns-in_err-end-clause-ends c = λ s p rows given ms h streamed makes reads len.
    let xs = c.args.streams.now in
    let left = c.args.left.now in
    let walk = c.make_stretch.new.walk in
    let here = rest_at c.make_stretch.new.rests in
    let making = c.make_stretch.new.making in
    let row = c.make_stretch.new.row in
    let ended = c.deref.ensures.value ∙ c.in_ok-ended.ensures in
    let scanned = lent_scanned s p rows given (ends_of xs) c.deref.result.now ms c.args.walk.now (left_at xs left) (rest_at c.as_mut_slice-rests.result.now) c.args.making.now c.args.before.now c.in_ok-row.row ended
    (λ i. ap (λ (rs : List Triplets). rest_at rs i) c.as_mut_slice-rests.ensures.value ∙ c.in_ok-held.ensures.rests i) streamed makes reads c.in_ok-row.ensures in
    fails_at_hand s p rows given (ends_of xs) (left_at xs left) here walk making row c.args.behind.now _ c.in_err-end.field-0.0
    (subst (λ (es : List Bool). EndsStretch s p rows given es walk here making row (Err c.in_err-end.field-0.0)) ended (c.in_err-end.ensures.ends s p rows given ms h scanned)) c.from_residual-in_err-end.ensures.1

pub returns-clause-ends : goal.returns-clause-ends
returns-clause-ends c = λ s p rows given ms h streamed makes reads len.
    let xs = c.args.streams.now in
    let left = c.args.left.now in
    let walk = c.make_stretch.new.walk in
    let here = rest_at c.make_stretch.new.rests in
    let making = c.make_stretch.new.making in
    let row = c.make_stretch.new.row in
    let ended = c.deref.ensures.value ∙ c.in_ok-ended.ensures in
    let same : (i : ℕ) → rest_at c.as_mut_slice-rests.result.now i ≡ left_at xs left i = λ i. ap (λ (rs : List Triplets). rest_at rs i) c.as_mut_slice-rests.ensures.value ∙ c.in_ok-held.ensures.rests i in
    let scanned = lent_scanned s p rows given (ends_of xs) c.deref.result.now ms c.args.walk.now (left_at xs left) (rest_at c.as_mut_slice-rests.result.now) c.args.making.now c.args.before.now c.in_ok-row.row ended same streamed makes reads c.in_ok-row.ensures in
    let counts = c.in_ok-counts.ensures in
    let ends : length (ends_of xs) ≡ length xs = length-map xs (λ (x : LeafStream). x.ended) in
    let slots = ap length c.as_mut_slice-rests.ensures.value in
    let so_many = ap length counts ∙ length-map c.make_stretch.new.rests (λ (r : Triplets). length (triplets_view r)) in
    at_hand s p rows given (ends_of xs) (left_at xs left) here walk making row c.args.behind.now c.keep.new.self c.in_ok-counts.counts c.in_ok-end.end
    (subst (λ (es : List Bool). EndsStretch s p rows given es walk here making row (Ok c.in_ok-end.end)) ended (c.in_ok-end.ensures.ends s p rows given ms h scanned))
    (λ i. let k = c.make_stretch.ensures.shrinks i in (k.0, k.1 ∙ ap (drop k.0) (same i))) (omega (arith, so_many, c.make_stretch.auto.rests, slots, c.in_ok-held.ensures.as_many, ends)) (λ k. ap (λ (ns : List ℕ). get_or ns k 0) counts ∙ counted_rests c.make_stretch.new.rests k) len c.in_ok-keep.ensures.last
