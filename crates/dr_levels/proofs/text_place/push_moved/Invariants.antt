use Rattle.std.proofs.Common.{◌≡◌, ◌≤◌, ◌-◌, ◌+◌, ◌++◌, map, take, length}
use Rattle.std.specs.Vec.{vec_len, vec_capacity}
use Rattle.dr_levels.specs.Texts.{moved}
use Rattle.dr_levels.proofs.text_place.push_moved.Given as goal

-- the places before this one joined, and there is room for the others
abbrev pub invariant-more : goal.invariant-more
invariant-more l = record {
  joined : l.places.items ≡ l.fn.places.items ++ map (moved l.behind) (take l.at l.more);
  room : vec_len l.places + (length l.more - l.at) ≤ vec_capacity l.places;
}
