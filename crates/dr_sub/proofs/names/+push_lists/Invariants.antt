use Rattle.std.proofs.Common.{◌≡◌, map, drop}
use Rattle.dr_nested.specs.PathView.{step_view}
use Rattle.dr_cells.specs.PlanShapes.{plan_lists_view}
use Rattle.dr_sub.specs.ResultNames.{lists_to, names_view}
use Rattle.dr_sub.proofs.names.+push_lists.Given as goal

-- no list before this one leads there, and no name has been added
abbrev pub invariant-lists : goal.invariant-lists
invariant-lists l = record {
  names : names_view l.names.items ≡ names_view l.fn.names.items;
  left : lists_to (map step_view l.at) (plan_lists_view (drop l.list-index l.lists.items)) (map step_view l.chain) ≡ lists_to (map step_view l.at) (plan_lists_view l.lists.items) (map step_view l.chain);
}
