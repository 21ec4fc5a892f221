use Rattle.std.proofs.Common.{◌≤◌}
use Rattle.dr_hybrid.specs.Reader.{width_at}
use Rattle.dr_calls.proofs.pieces.runs_by_pieces.Given as goal

abbrev pub invariant-pieces : goal.invariant-pieces
invariant-pieces l = width_at l.reader ≤ 32
