use Rattle.dr_formats.proofs.OpeningLemmas.{ranges_are_in_file}
use Rattle.dr_formats.proofs.file_laws.ranges_are_in_file.Goals as goal

pub returns : goal.returns
returns c = ranges_are_in_file
