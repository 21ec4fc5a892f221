use Rattle.std.proofs.Common.{◌≡◌, ◌∙◌, ◌++◌, List, Some, None, length, drop, get_or, ap, ap₂, sym, subst, arith}
use Rattle.std.proofs.lemmas.List.{length-map, with_items_is}
use Rattle.std.specs.Vec.{with_items}
use Rattle.dr_meaning.specs.Column.{Triplet}
use Rattle.dr_agreement.specs.AtHand.{here_of, ends_of}
use Rattle.dr_columns.proofs.StepLemmas.{plan_seen, fronts_seen, pass_seen, took_fronts, none_took, leaf_paths}
use Rattle.dr_columns.proofs.chunks.Chunks.take.Goals as goal

pub take_fronts-requires-clause-taken : goal.take_fronts-requires-clause-taken
take_fronts-requires-clause-taken c =
    let t = c.requires.taken in
    let x = c.args.self.now in
    (t.0, t.1, t.4, t.5.taken, plan_seen t.0 t.1 x.leaves.items c.deref.result.now x.tests.items c.deref-2.result.now c.deref.ensures.value c.deref-2.ensures.value t.5.for_plan)

pub pass_each-requires-clause-count : goal.pass_each-requires-clause-count
pass_each-requires-clause-count c =
    let t = c.requires.taken in
    let x = c.args.self.now in
    let f = fronts_seen t.0 t.1 x.leaves.items c.deref.result.now c.args.records t.4 c.take_fronts.new.scan c.in_ok-taken.taken (Some c.in-Some.counts) c.deref.ensures.value c.in-Some.is
    (c.in_ok-taken.ensures.taken t.0 t.1 t.4 t.5.taken (plan_seen t.0 t.1 x.leaves.items c.deref.result.now x.tests.items c.deref-2.result.now c.deref.ensures.value c.deref-2.ensures.value t.5.for_plan)) in
    ap length c.deref-in-Some.ensures.value ∙ (ap length f.2 ∙ (length-map f.0 (λ (ts : List Triplet). length ts) ∙ (f.1.0 ∙ ap length (sym c.deref_mut.ensures.value))))

pub pass_each-requires-clause-each : goal.pass_each-requires-clause-each
pass_each-requires-clause-each c =
    let t = c.requires.taken in
    let x = c.args.self.now in
    let f = fronts_seen t.0 t.1 x.leaves.items c.deref.result.now c.args.records t.4 c.take_fronts.new.scan c.in_ok-taken.taken (Some c.in-Some.counts) c.deref.ensures.value c.in-Some.is
    (c.in_ok-taken.ensures.taken t.0 t.1 t.4 t.5.taken (plan_seen t.0 t.1 x.leaves.items c.deref.result.now x.tests.items c.deref-2.result.now c.deref.ensures.value c.deref-2.ensures.value t.5.for_plan)) in
    pass_seen x.leaves.items c.deref_mut.result.now f.0 c.in-Some.counts.items c.deref-in-Some.result.now c.args.records c.deref_mut.ensures.value c.deref-in-Some.ensures.value f.2 f.1

pub returns-in-Some-clause-step : goal.returns-in-Some-clause-step
returns-in-Some-clause-step c = λ s p rows given R h.
    let x = c.args.self.now in
    let f = fronts_seen s p x.leaves.items c.deref.result.now c.args.records R c.take_fronts.new.scan c.in_ok-taken.taken (Some c.in-Some.counts) c.deref.ensures.value c.in-Some.is
    (c.in_ok-taken.ensures.taken s p R h.taken (plan_seen s p x.leaves.items c.deref.result.now x.tests.items c.deref-2.result.now c.deref.ensures.value c.deref-2.ensures.value h.for_plan)) in
    let n : length c.pass_each.new.leaves ≡ length x.leaves.items = c.pass_each.auto.leaves ∙ ap length c.deref_mut.ensures.value in
    let same : (with_items x.leaves c.pass_each.new.leaves).items ≡ c.pass_each.new.leaves = with_items_is x.leaves c.pass_each.new.leaves (omega (arith, n, x.leaves.ok.0)) in
    took_fronts s p rows given R x c.args.records (with_items x.leaves c.pass_each.new.leaves) c.take_fronts.new.scan c.in-Some.counts h c.requires.some c.requires.few c.requires.whole f
    (λ i. ap (λ xs. here_of xs i) same ∙ (c.pass_each.ensures.here i ∙ ap₂ (λ ns xs. drop (get_or ns i 0) (here_of xs i)) c.deref-in-Some.ensures.value c.deref_mut.ensures.value))
    (λ i. ap (λ xs. ends_of xs i) same ∙ (c.pass_each.ensures.ends i ∙ ap (λ xs. ends_of xs i) c.deref_mut.ensures.value))
    (ap length same ∙ n)

pub returns-in-None-clause-step : goal.returns-in-None-clause-step
returns-in-None-clause-step c = λ s p rows given R h.
    let x = c.args.self.now in
    let f = fronts_seen s p x.leaves.items c.deref.result.now c.args.records R c.take_fronts.new.scan c.in_ok-taken.taken None c.deref.ensures.value c.in-None.is
    (c.in_ok-taken.ensures.taken s p R h.taken (plan_seen s p x.leaves.items c.deref.result.now x.tests.items c.deref-2.result.now c.deref.ensures.value c.deref-2.ensures.value h.for_plan)) in
    none_took s p rows given R x.leaves.items f.0 x.records c.args.records h.behind (leaf_paths s p R x.scan h.taken) h.for_plan.as_many f.1 c.requires.some c.requires.few c.requires.whole f.2
