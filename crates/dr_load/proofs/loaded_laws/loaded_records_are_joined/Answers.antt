use Rattle.dr_load.proofs.LoadedLemmas.{loaded_records_are_joined}
use Rattle.dr_load.proofs.loaded_laws.loaded_records_are_joined.Goals as goal

pub returns : goal.returns
returns c = loaded_records_are_joined
