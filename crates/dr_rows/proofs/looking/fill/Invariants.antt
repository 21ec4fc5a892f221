use Rattle.std.proofs.Common.{◌≡◌, map}
use Rattle.dr_nested.specs.PathView.{step_view, paths_view}
use Rattle.dr_rows.specs.Views.{lent_instance, lent_cells}
use Rattle.dr_rows.specs.Walking.{filled}
use Rattle.dr_rows.proofs.FillingLemmas.{filled_from}
use Rattle.dr_rows.proofs.looking.fill.Given as goal

-- the leaves from this one on are still to be taken
abbrev pub invariant-leaves : goal.invariant-leaves
invariant-leaves l =
    filled_from (map step_view l.front) (lent_instance l.instance) l.number (paths_view l.leaves) (lent_cells l.values)
    ≡ filled (map step_view l.front) (lent_instance l.instance) (paths_view l.leaves) (lent_cells l.initial.values)
