use Rattle.std.proofs.Common.{refl}
use Rattle.dr_tree.proofs.GrowLemmas.{can_merge, groups_added, groups_stay, some_child}
use Rattle.dr_tree.proofs.SubtreeLemmas.{on_err_too, on_ok_too}
use Rattle.dr_tree.proofs.growing.Growing.add_groups.Goals as goal

pub add_to_subtree-requires-clause-some : goal.add_to_subtree-requires-clause-some
add_to_subtree-requires-clause-some c = some_child c.requires.0 c.args.self.now c.args.tablet c.args.groups c.requires.1 c.requires.2

pub add_to_subtree-requires-clause-can_merge : goal.add_to_subtree-requires-clause-can_merge
add_to_subtree-requires-clause-can_merge c = can_merge c.requires.0 c.args.self.now c.args.tablet c.args.groups c.requires.1 c.requires.2

pub returns-clause-added : goal.returns-clause-added
returns-clause-added c = λ w h k.
    on_ok_too c.add_to_subtree.result
    (λ s. groups_added w c.args.self.now c.args.tablet c.args.groups h k (record { grown = c.args.self.now.grown; subtrees = c.add_to_subtree.new.subtrees; waiting = c.args.self.now.waiting }) s c.add_to_subtree.ensures.count refl)
    c.add_to_subtree.ensures.added

pub returns-clause-refused : goal.returns-clause-refused
returns-clause-refused c = λ w h.
    on_err_too c.add_to_subtree.result
    (λ e. groups_stay w c.args.self.now (record { grown = c.args.self.now.grown; subtrees = c.add_to_subtree.new.subtrees; waiting = c.args.self.now.waiting }) h e c.add_to_subtree.ensures.count refl refl)
    c.add_to_subtree.ensures.refused
