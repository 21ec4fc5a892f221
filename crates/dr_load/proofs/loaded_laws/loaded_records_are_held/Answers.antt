use Rattle.dr_load.proofs.LoadedLemmas.{loaded_records_are_held}
use Rattle.dr_load.proofs.loaded_laws.loaded_records_are_held.Goals as goal

pub returns : goal.returns
returns c = loaded_records_are_held
