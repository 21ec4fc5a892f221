use Rattle.dr_reading.proofs.ReadingLemmas.{left_holds_no_file}
use Rattle.dr_reading.proofs.reading_laws.left_holds_no_file.Goals as goal

pub returns : goal.returns
returns c = left_holds_no_file
