use Rattle.dr_formats.proofs.FileLemmas.{one_cause}
use Rattle.dr_formats.proofs.file_laws.one_cause.Goals as goal

pub returns : goal.returns
returns c = one_cause
