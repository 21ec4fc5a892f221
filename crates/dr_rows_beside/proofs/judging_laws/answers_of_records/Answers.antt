use Rattle.dr_rows_beside.proofs.TestRowLemmas.{answers_of_records}
use Rattle.dr_rows_beside.proofs.judging_laws.answers_of_records.Goals as goal

pub returns : goal.returns
returns c = answers_of_records
