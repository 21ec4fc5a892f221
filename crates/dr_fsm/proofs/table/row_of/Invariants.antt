use Rattle.std.proofs.Common.{map}
use Rattle.dr_fsm.specs.Tables.{lent_leaf, Answers}
use Rattle.dr_fsm.proofs.table.row_of.Given as goal

-- the leaves from this one on are still to be looked at
abbrev pub invariant-leaves : goal.invariant-leaves
invariant-leaves l = Answers (map lent_leaf l.leaves) l.place l.row.items l.target
