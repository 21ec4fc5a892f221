use Rattle.std.proofs.Common.{◌≡◌, ◌≤◌, ◌<◌, arith, length, List, IfOk, sym, subst}
use Rattle.std.proofs.lemmas.List.{length-map}
use Rattle.dr_group.proofs.ManyLemmas.{past_all, past_held, each_there_or_not}
use Rattle.dr_group.specs.Views.{accumulator_view}
use Rattle.dr_group.specs.Groups.{accumulators_view}
use Rattle.dr_group.specs.ManyTaken.{many_view, take_each_at}
use Rattle.dr_group.specs.declared.accumulator.Accumulator.{Accumulator}
use Rattle.dr_group.proofs.PlaceLemmas.{written, read}
use Rattle.dr_group.proofs.many.take_many_into.Goals as goal

pub returns-then-at-gatherings : goal.returns-then-at-gatherings
returns-then-at-gatherings c =
    past_all c.args.gatherings.now c.args.aggregate (many_view c.args.many) (accumulators_view c.args.accumulators.now.items) c.if-at-gatherings.true

pub returns-then-at-len : goal.returns-then-at-len
returns-then-at-len c =
    let ys = c.args.accumulators.now in
    let xs = accumulators_view ys.items in
    let past : length xs ≤ c.args.aggregate = omega (arith, length-map ys.items accumulator_view, c.len.ensures.value, c.if-at-len.true) in
    past_held c.args.gatherings.now c.args.aggregate (many_view c.args.many) xs past

pub returns : goal.returns
returns c =
    let xs = c.args.accumulators.now.items in
    let slice = c.deref_mut.result.now in
    let same = c.deref_mut.ensures.value in
    let at = c.args.aggregate in
    let vs = many_view c.args.many in
    let inside : at < length xs = omega (arith, c.if-at-len.false, c.len.ensures.value) in
    subst (λ (ys : List Accumulator). IfOk c.take_many.result (λ done. accumulators_view ys ≡ take_each_at c.args.gatherings.now at vs (accumulators_view xs))) (sym (written xs slice at c.take_many.new.self same))
    (each_there_or_not c.take_many.result c.args.gatherings.now xs at vs _ _ c.take_many.new.self c.if-at-gatherings.false inside (read xs slice at c.index-deref_mut-at.result same c.index-deref_mut-at.is) c.take_many.ensures)
