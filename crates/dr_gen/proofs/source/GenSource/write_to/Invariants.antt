use Rattle.std.proofs.Common.{◌≡◌, ◌≤◌, ◌<◌, ◌+◌, ◌++◌, [], ℕ, List, length, take}
use Rattle.dr_outside.specs.Sink.{Added}
use Rattle.dr_gen.specs.Left.{left_of}
use Rattle.dr_gen.proofs.source.GenSource.write_to.Given as goal

-- what was written, what is in the piece, and what is left behind it is what was left; a piece that isn't full is the last
abbrev pub invariant-pieces : goal.invariant-pieces
invariant-pieces g l = (front : List ℕ) × (front ++ (take l.filled l.piece ++ left_of l.self) ≡ left_of l.fn.self) × Added (g.O.Sink.shows l.initial.out).written (g.O.Sink.shows l.out).written front
    × ((g.O.Sink.shows l.out).faults ≡ (g.O.Sink.shows l.initial.out).faults) × ((g.O.Sink.shows l.out).calls ≤ (g.O.Sink.shows l.initial.out).calls + length front)
    × (l.filled ≤ length l.piece) × (length l.piece ≡ 16384) × (l.filled < length l.piece → left_of l.self ≡ [])

abbrev pub decreases-pieces : goal.decreases-pieces
decreases-pieces g l = l.filled + length (left_of l.self)
