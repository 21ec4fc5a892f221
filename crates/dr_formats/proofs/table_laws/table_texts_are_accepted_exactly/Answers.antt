use Rattle.dr_formats.proofs.TableTextLemmas.{table_texts_are_accepted_exactly}
use Rattle.dr_formats.proofs.table_laws.table_texts_are_accepted_exactly.Goals as goal

pub returns : goal.returns
returns c = table_texts_are_accepted_exactly
