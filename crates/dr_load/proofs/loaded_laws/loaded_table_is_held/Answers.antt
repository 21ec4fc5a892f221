use Rattle.dr_load.proofs.LoadedLemmas.{loaded_copies_are_files, loaded_table_is_held}
use Rattle.dr_load.proofs.loaded_laws.loaded_table_is_held.Goals as goal

pub returns : goal.returns
returns c = record { files = loaded_copies_are_files; held = loaded_table_is_held }
