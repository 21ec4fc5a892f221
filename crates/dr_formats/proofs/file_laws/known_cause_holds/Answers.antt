use Rattle.dr_formats.proofs.FileLemmas.{cause_is_known, known_cause_holds}
use Rattle.dr_formats.proofs.file_laws.known_cause_holds.Goals as goal

pub returns : goal.returns
returns c = record { holds = known_cause_holds; known = cause_is_known }
