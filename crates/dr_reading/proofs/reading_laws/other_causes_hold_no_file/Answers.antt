use Rattle.dr_reading.proofs.FileLemmas.{other_causes_hold_no_file}
use Rattle.dr_reading.proofs.reading_laws.other_causes_hold_no_file.Goals as goal

pub returns : goal.returns
returns c = other_causes_hold_no_file
