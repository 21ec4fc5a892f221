use Rattle.dr_meaning.proofs.SchemaValid.{accepted_exactly}
use Rattle.dr_meaning.proofs.schema_laws.schema_texts_are_accepted_exactly.Goals as goal

pub returns : goal.returns
returns c = accepted_exactly
