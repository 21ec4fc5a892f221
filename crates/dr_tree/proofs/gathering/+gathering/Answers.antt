use Rattle.std.proofs.Common.{rules, ◌≡◌, ◌+◌, ◌-◌, ◌++◌, ◌∙◌, sym, ap, subst, arith, length, take}
use Rattle.std.proofs.lemmas.List.{take-append-drop}
use Rattle.std.proofs.lemmas.Result.{IfOk-weaker, IfOk-at_ok}
use Rattle.dr_partials.specs.Trees.{gathered, tablets_of, tablets_of_all}
use Rattle.dr_tree.specs.Together.{Together}
use Rattle.dr_tree.specs.Views.{tree_view, all_views, trees_view}
use Rattle.dr_tree.proofs.ViewLemmas.{size, sizes, sizes_last, last_apart, has_size, count_apart}
use Rattle.dr_tree.proofs.GatheringLemmas.{leaf_gathered, first_together, second_together, gathered_alike, gathered_room, merged_gathered, gathered_children}
use Rattle.dr_tree.proofs.gathering.+gathering.Goals as goal

pub gather_children-count_tablets-requires : goal.gather_children-count_tablets-requires
gather_children-count_tablets-requires g t c =
    let e = count_apart (tablets_of (tree_view c.args.first.now)) c.args.rest.now c.in-Some.front.now c.in-Some.last.now c.in-Some.ensures.cases.0 in
    omega (arith, e, c.requires.tablets, c.len.ensures, c.len.type_inv, c.args.partials.ok)

pub gather_children-overflow_sub-at : goal.gather_children-overflow_sub-at
gather_children-overflow_sub-at g t c =
    let e = count_apart (tablets_of (tree_view c.args.first.now)) c.args.rest.now c.in-Some.front.now c.in-Some.last.now c.in-Some.ensures.cases.0 in
    omega (arith, e, c.requires.tablets, c.len.ensures, c.count_tablets.ensures, c.args.partials.ok)

pub gather_children-gather_last-requires : goal.gather_children-gather_last-requires
gather_children-gather_last-requires g t c κs within =
    let cut = c.in_ok-behind-in-Some.ensures in
    let e = count_apart (tablets_of (tree_view c.args.first.now)) c.args.rest.now c.in-Some.front.now c.in-Some.last.now c.in-Some.ensures.cases.0 in
    let all : c.split_off.new.self.items ++ c.in_ok-behind-in-Some.behind.items ≡ c.args.partials.items =
    ap (λ xs. xs ++ c.in_ok-behind-in-Some.behind.items) cut.items
    ∙ (ap (λ ys. take (c.len.result - c.count_tablets.result) c.args.partials.items ++ ys) cut.tail ∙ take-append-drop _ c.args.partials.items) in
    let front : length c.split_off.new.self.items ≡ length (tablets_of (tree_view c.args.first.now) ++ tablets_of_all (trees_view c.in-Some.front.now)) =
    omega (arith, e, c.requires.tablets, c.len.ensures, c.count_tablets.ensures, c.args.partials.ok, cut.len, c.split_off.new.self.ok) in
    let last : length c.in_ok-behind-in-Some.behind.items ≡ length (tablets_of (tree_view c.in-Some.last.now)) =
    omega (arith, e, c.requires.tablets, c.len.ensures, c.count_tablets.ensures, c.args.partials.ok, cut.tail_len, c.in_ok-behind-in-Some.behind.ok) in
    let falls : sizes (trees_view c.args.rest.now) ≡ sizes (trees_view c.in-Some.front.now) + 1 + size (tree_view c.in-Some.last.now) =
    ap sizes (last_apart c.args.rest.now c.in-Some.front.now c.in-Some.last.now c.in-Some.ensures.cases.0) ∙ sizes_last (all_views c.in-Some.front.now) (tree_view c.in-Some.last.now) in
    let together : Together (c.split_off.new.self.items ++ c.in_ok-behind-in-Some.behind.items) = subst Together (sym all) c.requires.together in
    (omega (arith, falls, c.decreases), (search rules, (search rules, (front, (last, together)))))

pub gather_children-returns-in_ok-behind-in-Some :
    goal.gather_children-returns-in_ok-behind-in-Some
gather_children-returns-in_ok-behind-in-Some g t c =
    let all = ap (λ xs. xs ++ c.in_ok-behind-in-Some.behind.items) c.in_ok-behind-in-Some.ensures.items
    ∙ (ap (λ ys. take (c.len.result - c.count_tablets.result) c.args.partials.items ++ ys) c.in_ok-behind-in-Some.ensures.tail ∙ take-append-drop _ c.args.partials.items) in
    IfOk-weaker c.gather_last.result _ _ (λ r h.
    gathered_children (tablets_of (tree_view c.args.first.now)) (λ piece. gathered piece (tree_view c.args.first.now)) c.args.rest.now c.in-Some.front.now c.in-Some.last.now
    c.split_off.new.self.items c.in_ok-behind-in-Some.behind.items c.args.partials.items r c.in-Some.ensures.cases.0 all h) c.gather_last.ensures

pub gather_last-gather_children-requires-clause-together :
    goal.gather_last-gather_children-requires-clause-together
gather_last-gather_children-requires-clause-together g t c κs within = first_together c.args.partials.items c.args.behind.items c.requires.together

pub gather_last-merged-requires-clause-alike : goal.gather_last-merged-requires-clause-alike
gather_last-merged-requires-clause-alike g t c = gathered_alike c.args.partials.items c.args.behind.items _ _ c.requires.together c.in_ok-mine.ensures
    (leaf_gathered c.in-Leaf.field-0 c.args.last.now c.args.behind.items c.in_ok-theirs.theirs c.in-Leaf.is (c.in_ok-theirs.ensures c.in-Leaf.field-0))

pub gather_last-merged-requires-clause-mine : goal.gather_last-merged-requires-clause-mine
gather_last-merged-requires-clause-mine g t c = gathered_room c.args.partials.items _ (first_together c.args.partials.items c.args.behind.items c.requires.together) c.in_ok-mine.ensures

pub gather_last-merged-requires-clause-theirs : goal.gather_last-merged-requires-clause-theirs
gather_last-merged-requires-clause-theirs g t c = gathered_room c.args.behind.items _ (second_together c.args.partials.items c.args.behind.items c.requires.together)
    (leaf_gathered c.in-Leaf.field-0 c.args.last.now c.args.behind.items c.in_ok-theirs.theirs c.in-Leaf.is (c.in_ok-theirs.ensures c.in-Leaf.field-0))

pub gather_last-returns-in-Leaf : goal.gather_last-returns-in-Leaf
gather_last-returns-in-Leaf g t c =
    IfOk-weaker c.merged.result _ _ (λ r m. merged_gathered _ _ _ _ c.args.partials.items c.args.behind.items c.in_ok-mine.mine c.in_ok-theirs.theirs r c.requires.front
    c.in_ok-mine.ensures (leaf_gathered c.in-Leaf.field-0 c.args.last.now c.args.behind.items c.in_ok-theirs.theirs c.in-Leaf.is (c.in_ok-theirs.ensures c.in-Leaf.field-0)) m) c.merged.ensures

pub gather_last-join-mine-requires-after_bounds : goal.gather_last-join-mine-requires-after_bounds
gather_last-join-mine-requires-after_bounds g t c κs within =
    let mine = first_together c.args.partials.items c.args.behind.items c.requires.together in
    let theirs = second_together c.args.partials.items c.args.behind.items c.requires.together in
    let a = has_size (tree_view c.args.first.now) in
    let b = has_size (tree_view c.args.last.now) in
    search rules

pub gather_last-merged-requires-2-clause-alike : goal.gather_last-merged-requires-2-clause-alike
gather_last-merged-requires-2-clause-alike g t c =
    gathered_alike c.args.partials.items c.args.behind.items _ _ c.requires.together (IfOk-at_ok _ c.in_ok-mine-2.was c.join-mine.ensures.first) (IfOk-at_ok _ c.in_ok-theirs-2.was c.join-mine.ensures.second)

pub gather_last-merged-requires-2-clause-mine : goal.gather_last-merged-requires-2-clause-mine
gather_last-merged-requires-2-clause-mine g t c =
    gathered_room c.args.partials.items _ (first_together c.args.partials.items c.args.behind.items c.requires.together) (IfOk-at_ok _ c.in_ok-mine-2.was c.join-mine.ensures.first)

pub gather_last-merged-requires-2-clause-theirs : goal.gather_last-merged-requires-2-clause-theirs
gather_last-merged-requires-2-clause-theirs g t c =
    gathered_room c.args.behind.items _ (second_together c.args.partials.items c.args.behind.items c.requires.together) (IfOk-at_ok _ c.in_ok-theirs-2.was c.join-mine.ensures.second)

pub gather_last-returns : goal.gather_last-returns
gather_last-returns g t c =
    IfOk-weaker c.merged-2.result _ _ (λ r m. merged_gathered _ _ _ _ c.args.partials.items c.args.behind.items c.in_ok-mine-2.field-0 c.in_ok-theirs-2.field-0 r c.requires.front
    (IfOk-at_ok _ c.in_ok-mine-2.was c.join-mine.ensures.first) (IfOk-at_ok _ c.in_ok-theirs-2.was c.join-mine.ensures.second) m) c.merged-2.ensures

pub gather_tree-returns-in-Leaf : goal.gather_tree-returns-in-Leaf
gather_tree-returns-in-Leaf g t c = IfOk-weaker c.only.result _ _ (λ r h. leaf_gathered c.in-Leaf.field-0 c.args.tree.now c.args.partials.items r c.in-Leaf.is h) (c.only.ensures c.in-Leaf.field-0)
