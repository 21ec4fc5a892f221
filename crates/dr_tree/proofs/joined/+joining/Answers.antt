use Rattle.std.specs.Prelude.{◌≤◌, length, option_to_list}
use Rattle.std.proofs.Common.{rules, arith, IfOk, sym, subst}
use Rattle.std.proofs.lemmas.Result.{IfOk-weaker, IfOk-at_ok}
use Rattle.dr_tree.specs.Piles.{CanMerge, StaysPile}
use Rattle.dr_tree.specs.Subtrees.{all_piled}
use Rattle.dr_tree.proofs.PileLemmas.{can_merge_parts, stays_both, stays_then, still_merges}
use Rattle.dr_tree.proofs.SubtreeLemmas.{both_piled, only_piled}
use Rattle.dr_tree.proofs.joined.+joining.Goals as goal

pub merge_both-merge_subtrees-requires-after_bounds :
    goal.merge_both-merge_subtrees-requires-after_bounds
merge_both-merge_subtrees-requires-after_bounds g t c κs within = (can_merge_parts (all_piled c.args.front.items) (all_piled c.args.behind.items) c.requires.can_merge).0

pub merge_both-merge_subtrees-requires-then-not-are_worth_a_thread-after_bounds :
    goal.merge_both-merge_subtrees-requires-then-not-are_worth_a_thread-after_bounds
merge_both-merge_subtrees-requires-then-not-are_worth_a_thread-after_bounds g t c κs within = (can_merge_parts (all_piled c.args.front.items) (all_piled c.args.behind.items) c.requires.can_merge).1

pub merge_both-merged_if_some-requires : goal.merge_both-merged_if_some-requires
merge_both-merged_if_some-requires g t c =
    still_merges (stays_both (all_piled c.args.front.items) (all_piled c.args.behind.items) (option_to_list c.in_ok-mine.mine) (option_to_list c.in_ok-theirs.theirs) c.in_ok-mine.ensures c.in_ok-theirs.ensures) c.requires.can_merge

pub merge_both-returns-then-not-are_worth_a_thread :
    goal.merge_both-returns-then-not-are_worth_a_thread
merge_both-returns-then-not-are_worth_a_thread g t c =
    IfOk-weaker c.merged_if_some.result _ _
    (λ m h. stays_then (stays_both (all_piled c.args.front.items) (all_piled c.args.behind.items) (option_to_list c.in_ok-mine.mine) (option_to_list c.in_ok-theirs.theirs) c.in_ok-mine.ensures c.in_ok-theirs.ensures) h)
    c.merged_if_some.ensures

pub merge_both-join-mine-requires-after_bounds :
    goal.merge_both-join-mine-requires-after_bounds
merge_both-join-mine-requires-after_bounds g t c κs within =
    let both = can_merge_parts (all_piled c.args.front.items) (all_piled c.args.behind.items) c.requires.can_merge in
    let mine = both.0 in
    let theirs = both.1 in
    search rules

pub merge_both-merged_if_some-requires-2 : goal.merge_both-merged_if_some-requires-2
merge_both-merged_if_some-requires-2 g t c =
    still_merges (stays_both (all_piled c.args.front.items) (all_piled c.args.behind.items) (option_to_list c.in_ok-mine-2.field-0) (option_to_list c.in_ok-theirs-2.field-0)
    (IfOk-at_ok _ c.in_ok-mine-2.was c.join-mine.ensures.first) (IfOk-at_ok _ c.in_ok-theirs-2.was c.join-mine.ensures.second)) c.requires.can_merge

pub merge_both-returns : goal.merge_both-returns
merge_both-returns g t c =
    IfOk-weaker c.merged_if_some-2.result _ _
    (λ m h. stays_then (stays_both (all_piled c.args.front.items) (all_piled c.args.behind.items) (option_to_list c.in_ok-mine-2.field-0) (option_to_list c.in_ok-theirs-2.field-0)
    (IfOk-at_ok _ c.in_ok-mine-2.was c.join-mine.ensures.first) (IfOk-at_ok _ c.in_ok-theirs-2.was c.join-mine.ensures.second)) h) c.merged_if_some-2.ensures

pub merge_subtrees-merge_both-requires-clause-can_merge :
    goal.merge_subtrees-merge_both-requires-clause-can_merge
merge_subtrees-merge_both-requires-clause-can_merge g t c κs within =
    subst CanMerge (sym (both_piled c.args.subtrees.items c.split_off.new.self.items c.in_ok-behind.behind.items _ c.in_ok-behind.ensures.items c.in_ok-behind.ensures.tail)) c.requires

pub merge_subtrees-returns-then-len-gt1 : goal.merge_subtrees-returns-then-len-gt1
merge_subtrees-returns-then-len-gt1 g t c =
    subst (λ ms. IfOk c.merge_both.result (λ m. StaysPile ms (option_to_list m)))
    (both_piled c.args.subtrees.items c.split_off.new.self.items c.in_ok-behind.behind.items _ c.in_ok-behind.ensures.items c.in_ok-behind.ensures.tail) c.merge_both.ensures

pub merge_subtrees-returns-in-Some : goal.merge_subtrees-returns-in-Some
merge_subtrees-returns-in-Some g t c =
    let one : length c.args.subtrees.items ≤ 1 = omega (arith, c.len.ensures, c.if-len-gt1.false, c.args.subtrees.ok.0) in
    subst (λ ms. IfOk c.merge_pile.result (λ m. StaysPile ms (option_to_list m))) (sym (only_piled c.args.subtrees.items c.pop.new.self.items c.in-Some.field-0 one c.in-Some.ensures.items)) c.merge_pile.ensures
