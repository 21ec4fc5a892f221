use Rattle.dr_formats.proofs.OpeningLemmas.{no_file_has_cause}
use Rattle.dr_formats.proofs.file_laws.no_file_has_cause.Goals as goal

pub returns : goal.returns
returns c = no_file_has_cause
