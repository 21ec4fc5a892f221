use Rattle.std.proofs.Common.{◌≡◌, ◌++◌, ◌∙◌, ap, ap₂, sym, subst, map, List, [], Vec, Global, arith}
use Rattle.dr_partials.specs.Partials as meant
use Rattle.dr_partials.specs.Partials.{merge_groups}
use Rattle.dr_partials.proofs.GroupLemmas.{ascending_ascends, merged_ascends, merge_groups_none}
use Rattle.dr_group.specs.Groups.{group_view}
use Rattle.dr_group.specs.declared.group.Group.{Group}
use Rattle.dr_group.specs.Distinct.{AreDistinct}
use Rattle.dr_group.specs.Maps.{in_order, groups_view}
use Rattle.dr_group.specs.Merging.{AreAscending}
use Rattle.dr_group.proofs.DistinctLemmas.{order_ascends, ascending_distinct}
use Rattle.dr_group.proofs.HeldLemmas.{none_indexed}
use Rattle.dr_group.proofs.SortLemmas.{order_lent}
use Rattle.dr_group.proofs.group_map.GroupMap.merge_from.Goals as goal

pub merge_into-requires-clause-my_ascending : goal.merge_into-requires-clause-my_ascending
merge_into-requires-clause-my_ascending c =
    let s = c.args.self.now in
    let mine = order_lent s.groups.items c.deref.result.now c.in_ok-my_order.my_order.items c.deref-3.result.now c.deref.ensures.value c.deref-3.ensures.value c.in_ok-my_order.ensures.order in
    subst AreAscending (sym mine) (ascending_ascends (groups_view s) (order_ascends (map group_view s.groups.items)))

pub merge_into-requires-clause-their_ascending : goal.merge_into-requires-clause-their_ascending
merge_into-requires-clause-their_ascending c =
    let o = c.args.other.now in
    let t = c.replace-theirs.result in
    let taken : t.items ≡ o.groups.items = ap (λ (v : Vec Group Global). v.items) c.replace-theirs.ensures.value in
    let theirs = order_lent t.items c.deref-2.result.now c.in_ok-their_order.their_order.items c.deref-4.result.now (c.deref-2.ensures.value ∙ sym taken) c.deref-4.ensures.value c.in_ok-their_order.ensures.order
    ∙ ap (λ (gs : List Group). in_order (map group_view gs)) taken in
    subst AreAscending (sym theirs) (ascending_ascends (groups_view o) (order_ascends (map group_view o.groups.items)))

pub invariant_of-self : goal.invariant_of-self
invariant_of-self c =
    let s = c.args.self.now in
    let o = c.args.other.now in
    let merged = c.merge_into.new.merged.items in
    let mine = order_lent s.groups.items c.deref.result.now c.in_ok-my_order.my_order.items c.deref-3.result.now c.deref.ensures.value c.deref-3.ensures.value c.in_ok-my_order.ensures.order in
    let t = c.replace-theirs.result in
    let taken : t.items ≡ o.groups.items = ap (λ (v : Vec Group Global). v.items) c.replace-theirs.ensures.value in
    let theirs = order_lent t.items c.deref-2.result.now c.in_ok-their_order.their_order.items c.deref-4.result.now (c.deref-2.ensures.value ∙ sym taken) c.deref-4.ensures.value c.in_ok-their_order.ensures.order
    ∙ ap (λ (gs : List Group). in_order (map group_view gs)) taken in
    let views : map group_view merged ≡ merge_groups (groups_view s) (groups_view o) =
    c.merge_into.ensures.merged ∙ ap₂ (λ (xs ys : List meant.Group). xs ++ ys) (ap (map group_view) c.in_ok-merged.ensures.items) (ap₂ merge_groups mine theirs) in
    record {
      distinct = subst AreDistinct (sym views) (ascending_distinct (merge_groups (groups_view s) (groups_view o)) (merged_ascends (groups_view s) (groups_view o) (order_ascends (map group_view o.groups.items))));
      indexed = none_indexed c.new-3.result.links.items merged c.new-3.ensures;
      numbered = tt;
    }

pub returns-clause-groups : goal.returns-clause-groups
returns-clause-groups c =
    let s = c.args.self.now in
    let o = c.args.other.now in
    let merged = c.merge_into.new.merged.items in
    let mine = order_lent s.groups.items c.deref.result.now c.in_ok-my_order.my_order.items c.deref-3.result.now c.deref.ensures.value c.deref-3.ensures.value c.in_ok-my_order.ensures.order in
    let t = c.replace-theirs.result in
    let taken : t.items ≡ o.groups.items = ap (λ (v : Vec Group Global). v.items) c.replace-theirs.ensures.value in
    let theirs = order_lent t.items c.deref-2.result.now c.in_ok-their_order.their_order.items c.deref-4.result.now (c.deref-2.ensures.value ∙ sym taken) c.deref-4.ensures.value c.in_ok-their_order.ensures.order
    ∙ ap (λ (gs : List Group). in_order (map group_view gs)) taken in
    let views : map group_view merged ≡ merge_groups (groups_view s) (groups_view o) =
    c.merge_into.ensures.merged ∙ ap₂ (λ (xs ys : List meant.Group). xs ++ ys) (ap (map group_view) c.in_ok-merged.ensures.items) (ap₂ merge_groups mine theirs) in
    ap in_order views ∙ merge_groups_none (merge_groups (groups_view s) (groups_view o)) (merged_ascends (groups_view s) (groups_view o) (order_ascends (map group_view o.groups.items)))

pub invariant_of-other : goal.invariant_of-other
invariant_of-other c =
    let left = c.replace-theirs.new.dest.items in
    let none : left ≡ [] = ap (λ (v : Vec Group Global). v.items) c.replace-theirs.ensures.after ∙ c.new.ensures.items in
    record {
      distinct = subst (λ (gs : List Group). AreDistinct (map group_view gs)) (sym none) (λ t. omega arith);
      indexed = none_indexed c.new-2.result.links.items left c.new-2.ensures;
      numbered = tt;
    }
