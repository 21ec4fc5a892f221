use Rattle.std.proofs.Common.{◌≡◌, map, drop}
use Rattle.dr_nested.specs.PathView.{step_view}
use Rattle.dr_planning.specs.Entries.{named_list}
use Rattle.dr_planning.specs.NamedLevels.{levels_view}
use Rattle.dr_planning.proofs.names.list_name.Given as goal

-- the levels so far lead elsewhere
abbrev pub invariant-levels : goal.invariant-levels
invariant-levels l =
    named_list (map step_view l.level) (levels_view (drop l.next-index l.levels)) ≡ named_list (map step_view l.level) (levels_view l.levels)
