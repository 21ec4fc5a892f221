use Rattle.std.proofs.Common.{◌≡◌, map, drop}
use Rattle.dr_nested.specs.PathView.{step_view}
use Rattle.dr_planning.specs.Entries as entries
use Rattle.dr_planning.specs.NamedLevels.{levels_view}
use Rattle.dr_planning.proofs.names.+list_inside.Given as goal

-- the object is neither one of the levels so far nor inside one that leads on
abbrev pub invariant-levels : goal.invariant-levels
invariant-levels l =
    entries.list_inside (map step_view l.object) (map step_view l.level) (levels_view (drop l.next-index l.levels))
    ≡ entries.list_inside (map step_view l.object) (map step_view l.level) (levels_view l.levels)
