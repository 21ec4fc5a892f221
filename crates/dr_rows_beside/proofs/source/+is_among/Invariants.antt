use Rattle.std.proofs.Common.{length}
use Rattle.dr_rows_beside.proofs.source.+is_among.Given as goal

abbrev pub decreases-is_among : goal.decreases-is_among
decreases-is_among l = length l.beside.now
