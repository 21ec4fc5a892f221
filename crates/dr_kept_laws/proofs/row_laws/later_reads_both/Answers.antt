use Rattle.dr_kept_laws.proofs.LaterLeafLemmas.{later_reads_both}
use Rattle.dr_kept_laws.proofs.row_laws.later_reads_both.Goals as goal

pub returns : goal.returns
returns c = later_reads_both
