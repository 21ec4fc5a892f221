use Rattle.std.proofs.Common.{◌≡◌, [], ◌++◌, true}
use Rattle.dr_desk.proofs.desk.Desk.shut.Given as goal

abbrev pub invariant-passes : goal.invariant-passes
invariant-passes g l =
    (l.keeper.table_id ≡ l.table.shared.table_id)
    × (l.keeper.me.1 ≡ [])
    × (l.keeper.me.0.keeps ≡ true)
    × (l.keeper.me.0.seen ≡ l.board.history)
    × (l.initial.passes.items ≡ l.passes.items ++ l.keeper.me.0.met)

abbrev pub decreases-passes : goal.decreases-passes
decreases-passes g l = goal.left-passes g l
