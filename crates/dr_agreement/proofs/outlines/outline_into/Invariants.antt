use Rattle.std.proofs.Common.{◌≡◌, ◌≤◌, ◌++◌, take, drop}
use Rattle.dr_agreement.specs.Outlines.{outlined}
use Rattle.dr_agreement.proofs.outlines.outline_into.Given as goal

-- the outline of the levels before this one is put
abbrev pub invariant-levels : goal.invariant-levels
invariant-levels l = record {
  few : l.count ≤ l.at;
  so_far : take l.count l.room ++ outlined l.front.repeated l.front.defined (drop l.at l.levels) ≡ outlined l.front.repeated l.front.defined l.levels;
}
