use Rattle.dr_mean.proofs.GroupLawLemmas.{puts_of_projection, one_record_more}
use Rattle.dr_mean.proofs.laws.groups_take_records.Goals as goal

pub returns : goal.returns
returns c = record { projections = puts_of_projection; more = one_record_more }
