use Rattle.std.specs.Prelude.{◌≡◌, false, replicate}
use Rattle.dr_serve.proofs.answered.no_pieces.Given as goal

abbrev pub invariant-tablets : goal.invariant-tablets
invariant-tablets l = l.has_piece.items ≡ replicate l.counter false
