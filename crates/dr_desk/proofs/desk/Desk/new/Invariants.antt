use Rattle.std.proofs.Common.{◌≡◌, ◌≤◌, [], replicate, vec_capacity}
use Rattle.dr_dispatch.specs.Seats.{keeper_at}
use Rattle.dr_desk.specs.Calls.{new_pass}
use Rattle.dr_desk.proofs.desk.Desk.new.Given as goal

abbrev pub invariant-passes : goal.invariant-passes
invariant-passes g l =
    (l.keeper.table_id ≡ l.table.shared.table_id)
    × (l.table.shared.table_id ≡ g.B.Room.table)
    × (l.table.shared.table_id.words ≡ 2)
    × (l.keeper.me ≡ (keeper_at [], []))
    × (l.passes.items ≡ replicate l.number new_pass)
    × (l.count ≤ vec_capacity l.passes)
