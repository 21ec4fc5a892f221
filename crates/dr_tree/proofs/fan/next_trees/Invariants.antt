use Rattle.std.proofs.Common.{◌≡◌, ◌-◌, ◌++◌, take, drop}
use Rattle.dr_tree.proofs.fan.next_trees.Given as goal

-- those that are still to be taken are the first that are left
abbrev pub invariant-trees : goal.invariant-trees
invariant-trees l = (l.taken.items ++ take (l.most - l.counter) l.trees.items ≡ take l.most l.initial.trees.items)
    × (drop (l.most - l.counter) l.trees.items ≡ drop l.most l.initial.trees.items)
