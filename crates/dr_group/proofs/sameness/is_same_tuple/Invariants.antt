use Rattle.dr_group.specs.Views.{lent_cell}
use Rattle.dr_group.proofs.SamenessLemmas.{SameRest}
use Rattle.dr_group.proofs.sameness.is_same_tuple.Given as goal

-- the cells from here on are the same exactly where all are
abbrev pub invariant-cells : goal.invariant-cells
invariant-cells l = SameRest lent_cell l.left l.right l.number
