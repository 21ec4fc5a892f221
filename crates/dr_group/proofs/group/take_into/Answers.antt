use Rattle.std.proofs.Common.{◌∙◌, ◌≤◌, ◌<◌, ap, sym, subst, option_map, arith, length, Option, List}
use Rattle.std.proofs.Math.ListN.{set}
use Rattle.std.proofs.lemmas.List.{length-map}
use Rattle.dr_group.proofs.GatheringLemmas.{past_gatherings, past_accumulators, taken_at_or_not}
use Rattle.dr_group.specs.Views.{accumulator_view, lent_cell}
use Rattle.dr_group.specs.Groups.{taken_view, accumulators_view}
use Rattle.dr_group.specs.Gathering.{taken_by, Becomes}
use Rattle.dr_group.specs.declared.group.Taken.{Taken}
use Rattle.dr_group.specs.declared.accumulator.Accumulator.{Accumulator}
use Rattle.dr_group.proofs.PlaceLemmas.{written, read}
use Rattle.dr_group.proofs.group.take_into.Goals as goal

pub returns-then-at-gatherings : goal.returns-then-at-gatherings
returns-then-at-gatherings c =
    let t = c.in-Some.taken in
    let xs = accumulators_view c.args.accumulators.now.items in
    past_gatherings c.args.gatherings.now t.aggregate (lent_cell t.value) xs c.if-at-gatherings.true
    ∙ ap (λ (o : Option Taken). taken_by c.args.gatherings.now (option_map taken_view o) xs) (sym c.in-Some.is)

pub returns-then-at-len : goal.returns-then-at-len
returns-then-at-len c =
    let t = c.in-Some.taken in
    let ys = c.args.accumulators.now in
    let xs = accumulators_view ys.items in
    let past : length xs ≤ t.aggregate = omega (arith, length-map ys.items accumulator_view, c.len.ensures.value, c.if-at-len.true) in
    past_accumulators c.args.gatherings.now t.aggregate (lent_cell t.value) xs past
    ∙ ap (λ (o : Option Taken). taken_by c.args.gatherings.now (option_map taken_view o) xs) (sym c.in-Some.is)

pub returns : goal.returns
returns c =
    let t = c.in-Some.taken in
    let xs = c.args.accumulators.now.items in
    let slice = c.deref_mut.result.now in
    let same = c.deref_mut.ensures.value in
    let ys = set xs t.aggregate c.take.new.self in
    let inside : t.aggregate < length xs = omega (arith, c.if-at-len.false, c.len.ensures.value) in
    subst (λ (zs : List Accumulator). Becomes (accumulators_view xs) (accumulators_view zs) (taken_by c.args.gatherings.now (option_map taken_view c.args.taken) (accumulators_view xs)) c.take.result) (sym (written xs slice t.aggregate c.take.new.self same))
    (subst (λ (o : Option Taken). Becomes (accumulators_view xs) (accumulators_view ys) (taken_by c.args.gatherings.now (option_map taken_view o) (accumulators_view xs)) c.take.result) (sym c.in-Some.is)
    (taken_at_or_not c.take.result c.args.gatherings.now xs t.aggregate (lent_cell t.value) _ _ c.take.new.self c.if-at-gatherings.false inside (read xs slice t.aggregate c.index-deref_mut-at.result same c.index-deref_mut-at.is) c.take.ensures))
