use Rattle.dr_meaning.proofs.SchemaAccepted.{accepted_is_spelled}
use Rattle.dr_meaning.proofs.schema_laws.accepted_schema_text_is_spelled.Goals as goal

pub returns : goal.returns
returns c = accepted_is_spelled
