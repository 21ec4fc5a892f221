use Rattle.dr_formats.proofs.LackingLemmas.{nothing_lacking}
use Rattle.dr_formats.proofs.file_laws.nothing_lacking.Goals as goal

pub returns : goal.returns
returns c = nothing_lacking
