use Rattle.dr_mean.proofs.OneRecordLemmas.{puts_of_one, put_in_parts, plan_aggregates}
use Rattle.dr_mean.proofs.laws.record_is_put_row_by_row.Goals as goal

pub returns : goal.returns
returns c = record { one = puts_of_one; parts = put_in_parts; aggregates = plan_aggregates }
