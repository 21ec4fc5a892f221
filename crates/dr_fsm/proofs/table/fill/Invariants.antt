use Rattle.std.proofs.Common.{◌≡◌, ◌++◌, ◌+◌, ◌-◌, length, replicate}
use Rattle.dr_fsm.proofs.table.fill.Given as goal

-- what is still to be filled
abbrev pub invariant-levels : goal.invariant-levels
invariant-levels l = l.row.items ++ replicate (l.level + 1 - length l.row.items) l.state ≡ l.fn.row.items ++ replicate (l.level + 1 - length l.fn.row.items) l.state

abbrev pub decreases-levels : goal.decreases-levels
decreases-levels l = l.level + 1 - length l.row.items
