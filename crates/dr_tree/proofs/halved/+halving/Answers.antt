use Rattle.std.proofs.Common.{rules, ◌++◌, ◌∷◌, [], IfOk, sym, subst}
use Rattle.std.proofs.lemmas.Result.{IfOk-weaker, IfOk-at_ok}
use Rattle.dr_tree.specs.Piles.{CanMerge, StaysPile}
use Rattle.dr_tree.proofs.PileLemmas.{can_merge_parts, halves_stay, stays_both, still_merges, together_again}
use Rattle.dr_tree.proofs.halved.+halving.Goals as goal

pub merge_all-merge_halves-requires-after_bounds :
    goal.merge_all-merge_halves-requires-after_bounds
merge_all-merge_halves-requires-after_bounds g t c κs within =
    subst CanMerge
    (sym (together_again c.args.before.items c.split_off.new.self.items c.pop.new.self.items c.in_ok-behind.behind.items c.in-Some.middle c.args.last c.first_half-at.result c.in-Some.ensures.items
    c.in_ok-behind.ensures.items c.in_ok-behind.ensures.tail)) c.requires

pub merge_all-returns : goal.merge_all-returns
merge_all-returns g t c =
    subst (λ ms. IfOk c.merge_halves.result (λ m. StaysPile ms (m ∷ [])))
    (together_again c.args.before.items c.split_off.new.self.items c.pop.new.self.items c.in_ok-behind.behind.items c.in-Some.middle c.args.last c.first_half-at.result c.in-Some.ensures.items c.in_ok-behind.ensures.items
    c.in_ok-behind.ensures.tail) c.merge_halves.ensures

pub merge_halves-merge_all-requires-after_bounds :
    goal.merge_halves-merge_all-requires-after_bounds
merge_halves-merge_all-requires-after_bounds g t c κs within = (can_merge_parts (c.args.front.items ++ c.args.middle ∷ []) (c.args.behind.items ++ c.args.last ∷ []) c.requires).0

pub merge_halves-merge_all-requires-then-not-is_worth_a_thread-after_bounds :
    goal.merge_halves-merge_all-requires-then-not-is_worth_a_thread-after_bounds
merge_halves-merge_all-requires-then-not-is_worth_a_thread-after_bounds g t c κs within = (can_merge_parts (c.args.front.items ++ c.args.middle ∷ []) (c.args.behind.items ++ c.args.last ∷ []) c.requires).1

pub merge_halves-merged-requires : goal.merge_halves-merged-requires
merge_halves-merged-requires g t c =
    still_merges (stays_both (c.args.front.items ++ c.args.middle ∷ []) (c.args.behind.items ++ c.args.last ∷ []) (c.in_ok-mine.mine ∷ []) (c.in_ok-theirs.theirs ∷ []) c.in_ok-mine.ensures c.in_ok-theirs.ensures) c.requires

pub merge_halves-returns-then-not-is_worth_a_thread :
    goal.merge_halves-returns-then-not-is_worth_a_thread
merge_halves-returns-then-not-is_worth_a_thread g t c =
    IfOk-weaker c.merged.result _ _
    (λ m h. halves_stay (c.args.front.items ++ c.args.middle ∷ []) (c.args.behind.items ++ c.args.last ∷ []) c.in_ok-mine.mine c.in_ok-theirs.theirs m c.in_ok-mine.ensures c.in_ok-theirs.ensures h) c.merged.ensures

pub merge_halves-join-mine-requires-after_bounds :
    goal.merge_halves-join-mine-requires-after_bounds
merge_halves-join-mine-requires-after_bounds g t c κs within =
    let both = can_merge_parts (c.args.front.items ++ c.args.middle ∷ []) (c.args.behind.items ++ c.args.last ∷ []) c.requires in
    let mine = both.0 in
    let theirs = both.1 in
    search rules

pub merge_halves-merged-requires-2 : goal.merge_halves-merged-requires-2
merge_halves-merged-requires-2 g t c =
    still_merges (stays_both (c.args.front.items ++ c.args.middle ∷ []) (c.args.behind.items ++ c.args.last ∷ []) (c.in_ok-mine-2.field-0 ∷ []) (c.in_ok-theirs-2.field-0 ∷ [])
    (IfOk-at_ok _ c.in_ok-mine-2.was c.join-mine.ensures.first) (IfOk-at_ok _ c.in_ok-theirs-2.was c.join-mine.ensures.second)) c.requires

pub merge_halves-returns : goal.merge_halves-returns
merge_halves-returns g t c =
    IfOk-weaker c.merged-2.result _ _
    (λ m h. halves_stay (c.args.front.items ++ c.args.middle ∷ []) (c.args.behind.items ++ c.args.last ∷ []) c.in_ok-mine-2.field-0 c.in_ok-theirs-2.field-0 m
    (IfOk-at_ok _ c.in_ok-mine-2.was c.join-mine.ensures.first) (IfOk-at_ok _ c.in_ok-theirs-2.was c.join-mine.ensures.second) h) c.merged-2.ensures
