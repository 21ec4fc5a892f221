use Rattle.std.proofs.Common.{◌≡◌, ◌+◌, ◌≤◌, map, drop}
use Rattle.dr_assemble.specs.Pieces.{repetition_of, below_count}
use Rattle.dr_assemble.proofs.strip.count_below.Given as goal

-- the places from this one on are still to be counted
abbrev pub invariant-places : goal.invariant-places
invariant-places l = record {
  count : l.count + below_count l.level (map repetition_of (drop l.place-index l.places)) ≡ below_count l.level (map repetition_of l.places);
  within : l.count ≤ l.place-index;
}
