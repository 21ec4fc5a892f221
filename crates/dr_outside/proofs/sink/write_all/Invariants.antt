use Rattle.std.proofs.Common.{◌≡◌, ℕ, List, ◌++◌, ◌+◌, ◌≤◌, length}
use Rattle.dr_outside.specs.Sink.{Added}
use Rattle.dr_outside.proofs.sink.write_all.Given as goal

-- some front of the piece was written, by no more writes than it has bytes, and the rest is left
abbrev pub invariant-pieces : goal.invariant-pieces
invariant-pieces g l = (front : List ℕ) × (l.piece ≡ front ++ l.rest) × Added (g.O.Sink.shows l.initial.out).written (g.O.Sink.shows l.out).written front
    × ((g.O.Sink.shows l.out).faults ≡ (g.O.Sink.shows l.initial.out).faults) × ((g.O.Sink.shows l.out).calls ≤ (g.O.Sink.shows l.initial.out).calls + length front)

abbrev pub decreases-pieces : goal.decreases-pieces
decreases-pieces g l = length l.rest
