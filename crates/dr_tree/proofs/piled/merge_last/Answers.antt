use Rattle.std.specs.Prelude.{◌≡◌, ◌++◌, ◌∷◌, []}
use Rattle.std.proofs.Common.{◌∙◌, ap, sym, subst}
use Rattle.dr_group.specs.declared.group_map.GroupMap.{GroupMap}
use Rattle.dr_tree.specs.Piles.{IsPile}
use Rattle.dr_tree.proofs.PileLemmas.{pair_can_be, pair_merged, pair_same}
use Rattle.dr_tree.proofs.piled.merge_last.Goals as goal

pub merge_pair-requires-clause-before : goal.merge_pair-requires-clause-before
merge_pair-requires-clause-before c =
    (pair_can_be c.args.pile.now.items c.pop.new.self.items c.pop-2.new.self.items c.in-Some-pop.earlier c.in-Some.last c.in-Some.ensures.items c.in-Some-pop.ensures.items c.requires).0

pub merge_pair-requires-clause-last : goal.merge_pair-requires-clause-last
merge_pair-requires-clause-last c =
    (pair_can_be c.args.pile.now.items c.pop.new.self.items c.pop-2.new.self.items c.in-Some-pop.earlier c.in-Some.last c.in-Some.ensures.items c.in-Some-pop.ensures.items c.requires).1

pub returns-then-merge_pair : goal.returns-then-merge_pair
returns-then-merge_pair c = λ plan fs most all h.
    subst (IsPile plan fs most all) (sym c.push_reserved-then-merge_pair.ensures.items)
    (pair_merged c.args.pile.now.items c.pop.new.self.items c.pop-2.new.self.items c.in-Some-pop.earlier c.in-Some.last c.in-Some.ensures.items c.in-Some-pop.ensures.items c.merge_pair.new.last (c.merge_pair.ensures.groups c.if-merge_pair.true) (c.merge_pair.ensures.gatherings c.if-merge_pair.true)
    plan fs most all h)

pub returns : goal.returns
returns c = λ plan fs most all h.
    let same = c.merge_pair.ensures in
    let back : c.push_reserved-3.new.pile.items ≡ (c.pop-2.new.self.items ++ c.merge_pair.new.before ∷ []) ++ c.in-Some.last ∷ [] =
    c.push_reserved-3.ensures.items
    ∙ (ap (λ ms. ms ++ c.merge_pair.new.last ∷ []) c.push_reserved-2.ensures.items
    ∙ ap (λ (m : GroupMap). (c.pop-2.new.self.items ++ c.merge_pair.new.before ∷ []) ++ m ∷ []) (same.same_last c.if-merge_pair.false)) in
    subst (IsPile plan fs most all) (sym back)
    (pair_same c.args.pile.now.items c.pop.new.self.items c.pop-2.new.self.items c.in-Some-pop.earlier c.in-Some.last c.in-Some.ensures.items c.in-Some-pop.ensures.items c.merge_pair.new.before (same.same_groups c.if-merge_pair.false) (same.same_gatherings c.if-merge_pair.false)
    plan fs most all h)
