use Rattle.std.proofs.Common.{◌≡◌, length}
use Rattle.dr_rows_beside.proofs.keeping.room_of.Given as goal

abbrev pub invariant-depths : goal.invariant-depths
invariant-depths l = length l.room.items ≡ l.counter
