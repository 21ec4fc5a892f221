use Rattle.std.specs.Prelude.{◌<◌, ◌++◌, ◌∷◌, [], length}
use Rattle.std.proofs.Common.{arith, ◌∙◌, sym, ap, subst}
use Rattle.dr_tree.specs.Piles.{CanMerge, StaysPile}
use Rattle.dr_tree.specs.declared.subtree.Subtree.{Subtree}
use Rattle.dr_tree.proofs.SubtreeLemmas.{added_below, can_add, on_err_too, on_ok_too, same_below}
use Rattle.dr_tree.proofs.subtree.add_to_subtree.Goals as goal

pub add_to_pile-requires : goal.add_to_pile-requires
add_to_pile-requires c =
    let inside : c.subtree_of-at.result < length c.args.subtrees.now.items = omega (arith, c.subtree_of-at.ensures, c.deref.ensures.len, c.args.subtrees.now.ok.0) in
    subst (λ (s : Subtree). CanMerge (s.pile.items ++ c.args.groups ∷ [])) (sym c.index_mut-subtree.ensures.value)
    (can_add c.args.subtrees.now.items c.subtree_of-at.result c.index_mut-subtree.result.now c.args.groups inside c.requires.can_merge)

pub returns-clause-added : goal.returns-clause-added
returns-clause-added c =
    let inside : c.subtree_of-at.result < length c.args.subtrees.now.items = omega (arith, c.subtree_of-at.ensures, c.deref.ensures.len, c.args.subtrees.now.ok.0) in
    on_ok_too c.add_to_pile.result
    (λ k. added_below c.args.subtrees.now.items c.subtree_of-at.result c.index_mut-subtree.result.now (record { tablets = c.index_mut-subtree.result.now.tablets; pile = c.add_to_pile.new.pile }) c.args.groups inside
    (subst (λ (s : Subtree). StaysPile (s.pile.items ++ c.args.groups ∷ []) c.add_to_pile.new.pile.items) c.index_mut-subtree.ensures.value k)) c.add_to_pile.ensures.added

pub returns-clause-refused : goal.returns-clause-refused
returns-clause-refused c =
    on_err_too c.add_to_pile.result
    (λ e. same_below c.args.subtrees.now.items c.subtree_of-at.result c.index_mut-subtree.result.now (record { tablets = c.index_mut-subtree.result.now.tablets; pile = c.add_to_pile.new.pile })
    (e ∙ ap (λ (s : Subtree). s.pile.items) c.index_mut-subtree.ensures.value)) c.add_to_pile.ensures.refused
