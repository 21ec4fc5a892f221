use Rattle.std.proofs.Common.{◌+◌, ◌<◌, ◌^◌, ◌∙◌, ap, sym, arith, length}
use Rattle.std.proofs.lemmas.List.{length-map, length-set}
use Rattle.dr_partials.specs.Partials.{join_all}
use Rattle.dr_group.specs.Views.{accumulator_view}
use Rattle.dr_group.specs.Groups.{accumulators_view}
use Rattle.dr_group.proofs.JoinLemmas.{each_begun, equal_joined, held_bounded, held_joined}
use Rattle.dr_group.proofs.PlaceLemmas.{written, read}
use Rattle.dr_group.proofs.joining.join_each.Goals as goal

pub places-init : goal.places-init
places-init c =
    let xs = c.args.mine.now in
    let ys = c.args.theirs.now in
    (c.len-place-end.ensures.value, each_begun (2 ^ 60) xs.items c.truncate.new.self.items ys.items c.len.result c.len.ensures.value c.truncate.ensures.items c.requires.mine c.requires.theirs)

pub join-requires-clause-mine : goal.join-requires-clause-mine
join-requires-clause-mine c =
    let xs = c.places.mine.items in
    let at = c.places.place in
    let inside : at < length xs = omega (arith, c.places-test.true, c.places.invariant.0) in
    held_bounded (2 ^ 60) xs at _ inside (read xs c.deref_mut.result.now at c.index-deref_mut-place.result c.deref_mut.ensures.value c.index-deref_mut-place.is) c.places.invariant.1.mine

pub join-requires-clause-theirs : goal.join-requires-clause-theirs
join-requires-clause-theirs c =
    let xs = c.places.mine.items in
    let ys = c.places.theirs.items in
    let at = c.places.place in
    let inside : at < length xs = omega (arith, c.places-test.true, c.places.invariant.0) in
    let theirs : at < length ys = omega (arith, inside, c.places.invariant.1.long, length-map xs accumulator_view, length-map ys accumulator_view) in
    held_bounded (2 ^ 60) ys at _ theirs (read ys c.deref_mut-in-places.result.now at c.index-deref_mut-place-in-places.result c.deref_mut-in-places.ensures.value c.index-deref_mut-place-in-places.is) c.places.invariant.1.theirs

pub places-preserved : goal.places-preserved
places-preserved c =
    let xs = c.places.mine.items in
    let ys = c.places.theirs.items in
    let at = c.places.place in
    let inside : at < length xs = omega (arith, c.places-test.true, c.places.invariant.0) in
    let theirs : at < length ys = omega (arith, inside, c.places.invariant.1.long, length-map xs accumulator_view, length-map ys accumulator_view) in
    let all = join_all (accumulators_view c.args.mine.now.items) (accumulators_view c.args.theirs.now.items) in
    let mine = written xs c.deref_mut.result.now at c.join.new.mine c.deref_mut.ensures.value in
    let yours = written ys c.deref_mut-in-places.result.now at c.join.new.theirs c.deref_mut-in-places.ensures.value in
    let mine_read = read xs c.deref_mut.result.now at c.index-deref_mut-place.result c.deref_mut.ensures.value c.index-deref_mut-place.is in
    let theirs_read = read ys c.deref_mut-in-places.result.now at c.index-deref_mut-place-in-places.result c.deref_mut-in-places.ensures.value c.index-deref_mut-place-in-places.is in (
      c.places.invariant.0 ∙ sym (ap length mine ∙ length-set xs at c.join.new.mine),
      equal_joined (2 ^ 60) _ _ _ _ all (at + 1) mine yours (held_joined (2 ^ 60) xs ys all at _ _ c.join.new.mine c.join.new.theirs inside theirs mine_read theirs_read c.join.ensures c.places.invariant.1),
    )
