use Rattle.std.proofs.Common.{length}
use Rattle.dr_columns.proofs.leaf_rows.+find_beside.Given as goal

-- the leaves behind this one
abbrev pub decreases-find_beside : goal.decreases-find_beside
decreases-find_beside l = length l.beside.now
