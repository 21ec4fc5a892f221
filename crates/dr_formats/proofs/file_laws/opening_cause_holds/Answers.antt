use Rattle.dr_formats.proofs.OpeningLemmas.{opening_cause_holds}
use Rattle.dr_formats.proofs.file_laws.opening_cause_holds.Goals as goal

pub returns : goal.returns
returns c = opening_cause_holds
