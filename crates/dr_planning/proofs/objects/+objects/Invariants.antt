use Rattle.std.proofs.Common.{◌≡◌, map, drop}
use Rattle.dr_nested.specs.PathView.{lent_path}
use Rattle.dr_planning.specs.NamedLevels.{levels_view}
use Rattle.dr_planning.specs.Trees.{append_lists, lists_view, named_trees}
use Rattle.dr_planning.proofs.objects.+objects.Given as goal

-- the lists of the levels from this one on are still to join
abbrev pub invariant-object_at-levels : goal.invariant-object_at-levels
invariant-object_at-levels l =
    append_lists (lists_view l.lists.items) (named_trees (map lent_path l.items) (levels_view (drop l.next-index l.below)))
    ≡ named_trees (map lent_path l.items) (levels_view l.below)
