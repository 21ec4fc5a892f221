use Rattle.std.proofs.Common.{◌≡◌, ◌<◌, [], length, ◌∙◌, ap, sym, arith}
use Rattle.std.proofs.lemmas.List.{length-map, take_all}
use Rattle.dr_nested.specs.Views.{rep_view}
use Rattle.dr_striper.specs.Added.{grown}
use Rattle.dr_striper.specs.Ended.{ended_each, OneEnds}
use Rattle.dr_striper.specs.Views.{null_of, nulls, twigs_view, shapes_view}
use Rattle.dr_striper.proofs.PassingLemmas.{drop_more, same_shapes, size_below, group_size}
use Rattle.dr_striper.proofs.EndLemmas.{end_more, end_all, branch_ends, inner_ends, ends_seen, leaf_lent, group_lent, lent_rest, no_items, group_ended, left_empty}
use Rattle.dr_striper.proofs.ending.+ending.Goals as goal

pub end-end_one-requires : goal.end-end_one-requires
end-end_one-requires t c =
    let few : c.branches.number < length c.branches.branches = omega (arith, c.branches-test.true, c.branches.auto.branches) in (
      omega (arith, c.decreases, size_below c.branches.number c.branches.branches c.args.branches.now c.index-branches-number.result few c.branches.invariant.2),
      branch_ends c.branches.number (nulls c.args.above.now) c.branches.branches c.args.branches.now c.index-branches-number.result few c.branches.invariant.1 c.branches.invariant.2 c.requires.ends,
    )

pub end-returns-in_err-end_one-clause-shapes : goal.end-returns-in_err-end_one-clause-shapes
end-returns-in_err-end_one-clause-shapes t c =
    same_shapes c.branches.number c.branches.branches c.index-branches-number.result c.end_one.new.branch (omega (arith, c.branches-test.true, c.branches.auto.branches)) c.end_one.ensures.shape ∙ c.branches.invariant.2

pub end-branches-preserved : goal.end-branches-preserved
end-branches-preserved t c =
    let few : c.branches.number < length c.branches.branches = omega (arith, c.branches-test.true, c.branches.auto.branches) in (
      end_more c.branches.number (nulls c.args.above.now) c.branches.branches c.index-branches-number.result c.end_one.new.branch (ended_each (nulls c.args.above.now) (twigs_view c.args.branches.now)) few c.in_ok-end_one.ensures.ended c.branches.invariant.0,
      drop_more c.branches.number c.branches.branches c.args.branches.now c.end_one.new.branch c.branches.invariant.1,
      same_shapes c.branches.number c.branches.branches c.index-branches-number.result c.end_one.new.branch few c.end_one.ensures.shape ∙ c.branches.invariant.2,
    )

pub end-returns-clause-ended : goal.end-returns-clause-ended
end-returns-clause-ended t c =
    end_all c.branches.number (nulls c.args.above.now) c.branches.branches (ended_each (nulls c.args.above.now) (twigs_view c.args.branches.now)) (omega (arith, c.branches-test.false, c.branches.auto.branches)) c.branches.invariant.0

pub end_inner-end-requires : goal.end_inner-end-requires
end_inner-end-requires t c =
    let own = nulls c.args.group.now.levels.items in (
      omega (arith, c.decreases),
      inner_ends (rep_view c.args.rep) (nulls c.args.above.now) (nulls c.behind.result.now) c.args.group.now.seen own (shapes_view c.args.inner.now) (twigs_view c.args.inner.now)
          (lent_rest c.args.group.now.seen c.args.above.now c.behind.result.now own (no_items own (omega (arith, c.if-len-eq0.true, c.len.ensures, length-map c.args.group.now.levels.items null_of))) c.behind.ensures) c.requires.ends,
    )

pub end_inner-catch_up-requires-clause-seen : goal.end_inner-catch_up-requires-clause-seen
end_inner-catch_up-requires-clause-seen t c =
    omega (arith, ends_seen (rep_view c.args.rep) (nulls c.args.above.now) c.args.group.now.seen (nulls c.args.group.now.levels.items) (shapes_view c.args.inner.now) (twigs_view c.args.inner.now) c.requires.ends, length-map c.args.above.now null_of)

pub end_inner-end-requires-else-len-eq0 : goal.end_inner-end-requires-else-len-eq0
end_inner-end-requires-else-len-eq0 t c =
    let own = nulls c.args.group.now.levels.items in
    let ls = c.args.above.now in (
      omega (arith, c.decreases),
      inner_ends (rep_view c.args.rep) (nulls ls) (nulls c.deref.result.now) c.args.group.now.seen own (shapes_view c.args.inner.now) (twigs_view c.args.inner.now)
          (ap nulls c.deref.ensures.value ∙ c.in_ok-catch_up.ensures.levels ∙ ap (λ ks. grown c.args.group.now.seen own (nulls ks)) (take_all (length ls) ls (omega arith))) c.requires.ends,
    )

pub end_one-end_leaf-requires : goal.end_one-end_leaf-requires
end_one-end_leaf-requires t c = record { ends = leaf_lent (λ s b. OneEnds (nulls c.args.above.now) s b) c.args.branch.now c.in-Leaf.rep _ c.in-Leaf.leaf _ c.in-Leaf.is c.in-Leaf.rep-is c.in-Leaf.leaf-is c.requires.ends }

pub end_one-end_inner-requires : goal.end_one-end_inner-requires
end_one-end_inner-requires t c =
    let is : c.deref_mut.result.now ≡ c.in-Group.inner.items = c.deref_mut.ensures.value ∙ ap (λ v. v.items) c.in-Group.inner-is in (
      omega (arith, c.decreases, group_size c.args.branch.now c.in-Group.rep c.in-Group.group c.in-Group.inner c.deref_mut.result.now c.in-Group.is is),
      group_lent (λ s b. OneEnds (nulls c.args.above.now) s b) c.args.branch.now c.in-Group.rep _ c.in-Group.group _ c.in-Group.inner c.deref_mut.result.now c.in-Group.is c.in-Group.rep-is c.in-Group.group-is is c.requires.ends,
    )

pub end_inner-behind-requires : goal.end_inner-behind-requires
end_inner-behind-requires t c =
    omega (arith, ends_seen (rep_view c.args.rep) (nulls c.args.above.now) c.args.group.now.seen (nulls c.args.group.now.levels.items) (shapes_view c.args.inner.now) (twigs_view c.args.inner.now) c.requires.ends, length-map c.args.above.now null_of)

pub end_inner-returns-in_ok-end-clause-ended : goal.end_inner-returns-in_ok-end-clause-ended
end_inner-returns-in_ok-end-clause-ended t c =
    let own = nulls c.args.group.now.levels.items in
    let n = c.args.group.now.seen in
    let L = nulls c.args.above.now in
    let eo : own ≡ [] = no_items own (omega (arith, c.if-len-eq0.true, c.len.ensures, length-map c.args.group.now.levels.items null_of)) in
    group_ended (rep_view c.args.rep) n n L (nulls c.behind.result.now) own own (twigs_view c.args.inner.now) (twigs_view c.end.new.branches)
    (sym (left_empty n L own eo).0) (sym (left_empty n L own eo).1) (lent_rest n c.args.above.now c.behind.result.now own eo c.behind.ensures) c.in_ok-end.ensures.ended
