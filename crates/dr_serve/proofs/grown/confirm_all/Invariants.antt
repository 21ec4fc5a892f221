use Rattle.std.proofs.Common.{◌≡◌}
use Rattle.dr_serve.specs.GrowsOn.{AreAnswered}
use Rattle.dr_serve.proofs.grown.confirm_all.Given as goal

-- the journal is as it was, and answers all tablets if it answers those that are left
abbrev pub invariant-pieces : goal.invariant-pieces
invariant-pieces g l = (l.journal ≡ l.initial.journal) × (AreAnswered l.initial.journal l.pieces.items → AreAnswered l.initial.journal l.initial.pieces.items)

abbrev pub decreases-pieces : goal.decreases-pieces
decreases-pieces g l = goal.left-pieces g l
