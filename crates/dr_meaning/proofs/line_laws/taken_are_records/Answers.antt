use Rattle.dr_meaning.proofs.LineLemmas.{taken_are_records}
use Rattle.dr_meaning.proofs.line_laws.taken_are_records.Goals as goal

pub returns : goal.returns
returns c = taken_are_records
