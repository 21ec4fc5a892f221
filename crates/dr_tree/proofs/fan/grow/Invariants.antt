use Rattle.std.proofs.Common.{◌≡◌, ◌-◌}
use Rattle.dr_tree.specs.Fan.{all_grown}
use Rattle.dr_tree.specs.Views.{all_views}
use Rattle.dr_tree.proofs.fan.grow.Given as goal

-- what is left grows by the levels that are left
abbrev pub invariant-levels : goal.invariant-levels
invariant-levels l = all_grown (l.levels - l.counter) l.more (all_views l.trees.items) ≡ all_grown l.levels l.more (all_views l.initial.trees.items)
