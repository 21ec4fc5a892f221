use Rattle.dr_formats.proofs.LoadFits.{limited_records_fit}
use Rattle.dr_formats.proofs.writing_laws.limited_records_fit.Goals as goal

pub returns : goal.returns
returns c = limited_records_fit
