use Rattle.std.proofs.Common.{◌≡◌, ◌≤◌, ◌-◌, ◌++◌, length}
use Rattle.dr_tree.specs.Fan.{servers_of}
use Rattle.dr_tree.specs.Views.{all_views}
use Rattle.dr_tree.proofs.fan.next_level.Given as goal

-- the servers of the trees that are left are still to come, and so many trees are left at most
abbrev pub invariant-servers : goal.invariant-servers
invariant-servers l = (all_views l.servers.items ++ servers_of l.more (all_views l.trees.items) ≡ servers_of l.more (all_views l.initial.trees.items))
    × (length l.trees.items ≤ length l.initial.trees.items - l.counter)
