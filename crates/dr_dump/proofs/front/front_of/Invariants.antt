use Rattle.std.proofs.Common.{◌≡◌, ◌≤◌, List, map, take}
use Rattle.dr_meaning.specs.Column.{Triplet}
use Rattle.dr_meaning.specs.OneColumn.{starts}
use Rattle.dr_levels.specs.Views.{levels_pair, triplet_levels}
use Rattle.dr_dump.proofs.front.front_of.Given as goal

-- so many records begin before this place, and no more than are wanted
abbrev pub invariant-levels : goal.invariant-levels
invariant-levels l = record {
  begun : (ts : List Triplet) → map levels_pair l.levels ≡ map triplet_levels ts → starts (take l.place ts) ≡ l.begun;
  few : l.begun ≤ l.records;
}
