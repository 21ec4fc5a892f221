use Rattle.std.proofs.Common.{◌≡◌, ◌+◌, ◌-◌, ◌++◌, length, map, take, drop}
use Rattle.dr_meaning.specs.Record.{Instance}
use Rattle.dr_nested.specs.PathView.{step_view, paths_view}
use Rattle.dr_nested.specs.Views.{instances_view}
use Rattle.dr_rows.specs.Views.{lent_cells, rows_view}
use Rattle.dr_rows.specs.Walking.{rows_below, for_each, Keeps}
use Rattle.dr_rows.proofs.walking.+walk.Given as goal

abbrev pub decreases-walk : goal.decreases-walk
decreases-walk l = length l.chain.now - l.depth

-- the rows of the instances from this one on are still to come
abbrev pub invariant-instances : goal.invariant-instances
invariant-instances l =
    let rows_of = λ (y : Instance). rows_below (paths_view l.leaves) (map step_view (take (l.depth + 1) l.chain)) (map step_view (drop (l.depth + 1) l.chain)) y (lent_cells l.initial.values) in
    record {
      rows : rows_view l.rows ++ for_each rows_of (instances_view (drop l.below-index l.instances)) ≡ rows_view l.initial.rows ++ for_each rows_of (instances_view l.instances);
      others : Keeps (paths_view l.leaves) (map step_view (take (l.depth + 1) l.chain)) (lent_cells l.initial.values) (lent_cells l.values);
      width : l.rows.width ≡ length l.leaves;
    }
