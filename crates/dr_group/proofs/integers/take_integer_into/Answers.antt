use Rattle.std.proofs.Common.{◌≤◌, ◌<◌, option_map, arith, length, List, sym, subst}
use Rattle.std.proofs.lemmas.List.{length-map}
use Rattle.dr_meaning.specs.Record.{int_value}
use Rattle.dr_group.specs.Gathering.{Becomes, take_at_by}
use Rattle.dr_group.specs.declared.accumulator.Accumulator.{Accumulator}
use Rattle.dr_group.proofs.PlaceLemmas.{written, read}
use Rattle.dr_group.proofs.GatheringLemmas.{past_gatherings, past_accumulators, taken_at_or_not}
use Rattle.dr_group.specs.Views.{accumulator_view}
use Rattle.dr_group.specs.Groups.{accumulators_view}
use Rattle.dr_group.proofs.integers.take_integer_into.Goals as goal

pub returns-then-at-gatherings : goal.returns-then-at-gatherings
returns-then-at-gatherings c =
    past_gatherings c.args.gatherings.now c.args.aggregate (option_map int_value c.args.integer) (accumulators_view c.args.accumulators.now.items) c.if-at-gatherings.true

pub returns-then-at-len : goal.returns-then-at-len
returns-then-at-len c =
    let ys = c.args.accumulators.now in
    let xs = accumulators_view ys.items in
    let past : length xs ≤ c.args.aggregate = omega (arith, length-map ys.items accumulator_view, c.len.ensures.value, c.if-at-len.true) in
    past_accumulators c.args.gatherings.now c.args.aggregate (option_map int_value c.args.integer) xs past

pub returns : goal.returns
returns c =
    let xs = c.args.accumulators.now.items in
    let slice = c.deref_mut.result.now in
    let same = c.deref_mut.ensures.value in
    let at = c.args.aggregate in
    let v = option_map int_value c.args.integer in
    let inside : at < length xs = omega (arith, c.if-at-len.false, c.len.ensures.value) in
    subst (λ (ys : List Accumulator). Becomes (accumulators_view xs) (accumulators_view ys) (take_at_by c.args.gatherings.now at v (accumulators_view xs)) c.take_row_of.result) (sym (written xs slice at c.take_row_of.new.self same))
    (taken_at_or_not c.take_row_of.result c.args.gatherings.now xs at v _ _ c.take_row_of.new.self c.if-at-gatherings.false inside (read xs slice at c.index-deref_mut-at.result same c.index-deref_mut-at.is) c.take_row_of.ensures)
