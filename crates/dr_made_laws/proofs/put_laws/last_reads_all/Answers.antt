use Rattle.dr_made_laws.proofs.LastReadLemmas.{last_reads_all}
use Rattle.dr_made_laws.proofs.put_laws.last_reads_all.Goals as goal

pub returns : goal.returns
returns c = last_reads_all
