use Rattle.std.proofs.Common.{◌≡◌, ◌+◌, ◌-◌, length}
use Rattle.dr_within.specs.LevelTable.{rows_in}
use Rattle.dr_within.proofs.levels.reach.Given as goal

-- no level comes, and none goes
abbrev pub invariant-rows : goal.invariant-rows
invariant-rows l = rows_in l.rows.items ≡ rows_in l.initial.rows.items

abbrev pub decreases-rows : goal.decreases-rows
decreases-rows l = (l.at + 1) - length l.rows.items
