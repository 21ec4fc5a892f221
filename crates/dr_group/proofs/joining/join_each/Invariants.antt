use Rattle.std.proofs.Common.{◌≡◌, ◌^◌, length}
use Rattle.dr_partials.specs.Partials.{join_all}
use Rattle.dr_group.specs.Groups.{accumulators_view}
use Rattle.dr_group.proofs.JoinLemmas.{EachJoined}
use Rattle.dr_group.proofs.joining.join_each.Given as goal

-- those before this place are joined
abbrev pub invariant-places : goal.invariant-places
invariant-places l =
    (l.place-end ≡ length l.mine.items)
    × EachJoined (2 ^ 60) (accumulators_view l.mine.items) (accumulators_view l.theirs.items) (join_all (accumulators_view l.fn.mine.items) (accumulators_view l.fn.theirs.items)) l.place
