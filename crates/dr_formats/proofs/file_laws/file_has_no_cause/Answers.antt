use Rattle.dr_formats.proofs.FileLemmas.{file_has_no_cause}
use Rattle.dr_formats.proofs.file_laws.file_has_no_cause.Goals as goal

pub returns : goal.returns
returns c = file_has_no_cause
