use Rattle.std.proofs.Common.{◌≡◌, ◌+◌, map, drop}
use Rattle.dr_assemble.specs.Pieces.{repetition_of, above_length}
use Rattle.dr_assemble.proofs.strip.above_length.Given as goal

-- the places before this one are above
abbrev pub invariant-places : goal.invariant-places
invariant-places l = above_length l.level (map repetition_of l.places) ≡ l.count + above_length l.level (map repetition_of (drop l.count l.places))
