use Rattle.std.proofs.Common.{◌≡◌, ◌≤◌, take, drop, length}
use Rattle.dr_levels.specs.Dense.{present}
use Rattle.dr_rows_beside.specs.Comparing.{placed}
use Rattle.dr_rows_beside.proofs.comparing.place_back.Given as goal

-- the places from this one on are filled
abbrev pub invariant-places : goal.invariant-places
invariant-places l = record {
  within : l.to ≤ length l.levels;
  counted : l.from ≡ present l.greatest (take l.to l.levels);
  front : take l.to l.room ≡ take l.to l.fn.room;
  back : drop l.to l.room ≡ drop l.to (placed l.greatest l.levels (take l.count l.fn.room));
}

abbrev pub decreases-places : goal.decreases-places
decreases-places l = l.to
