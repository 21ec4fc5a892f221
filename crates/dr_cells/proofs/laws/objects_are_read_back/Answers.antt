use Rattle.dr_cells.proofs.ReadingLemmas.{reads_back, reads_fitting}
use Rattle.dr_cells.proofs.laws.objects_are_read_back.Goals as goal

pub returns-clause-back : goal.returns-clause-back
returns-clause-back c = reads_back

pub returns-clause-fitting : goal.returns-clause-fitting
returns-clause-fitting c = reads_fitting
