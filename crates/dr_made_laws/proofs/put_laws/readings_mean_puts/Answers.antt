use Rattle.dr_made_laws.proofs.ReadingLemmas.{readings_mean_puts}
use Rattle.dr_made_laws.proofs.FlowPartialLemmas.{group_readings_read}
use Rattle.dr_made_laws.proofs.put_laws.readings_mean_puts.Goals as goal

pub returns : goal.returns
returns c = record { puts = readings_mean_puts; read = group_readings_read }
