use Rattle.dr_formats.proofs.LackingLemmas.{absent_is_null, absent_is_outline}
use Rattle.dr_formats.proofs.file_laws.absent_is_outline.Goals as goal

pub returns : goal.returns
returns c = record { group = absent_is_outline; records = absent_is_null }
