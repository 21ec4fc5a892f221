use Rattle.std.proofs.Common.{◌≡◌, ◌++◌, map, drop}
use Rattle.dr_nested.specs.PathView.{lent_path, step_view}
use Rattle.dr_planning.specs.Trees.{numbers_at}
use Rattle.dr_planning.proofs.objects.numbers_of.Given as goal

-- the numbers of the items from this one on are still to join
abbrev pub invariant-items : goal.invariant-items
invariant-items l =
    l.numbers.items ++ numbers_at l.number (map lent_path (drop l.number l.items)) (map step_view l.level) ≡ numbers_at 0 (map lent_path l.items) (map step_view l.level)
