use Rattle.std.proofs.Common.{◌≡◌, List, drop}
use Rattle.dr_nested.specs.Views.{kind_view}
use Rattle.dr_moves.specs.Course.{give_each}
use Rattle.dr_walk.specs.Laying.{FlatItem, lay, laying}
use Rattle.dr_walk.specs.Views.{picks_view, gates_view, level_view}
use Rattle.dr_walk.proofs.level.Level.add_gives.Given as goal

-- the leaves from this one on are still to be added
abbrev pub invariant-picks : goal.invariant-picks
invariant-picks l = (code : List FlatItem) → lay (give_each (kind_view l.kind) (picks_view (drop l.pick-index l.picks)) (gates_view l.gates) l.low l.full) (laying code (level_view l.self))
    ≡ lay (give_each (kind_view l.kind) (picks_view l.picks) (gates_view l.gates) l.low l.full) (laying code (level_view l.fn.self))
