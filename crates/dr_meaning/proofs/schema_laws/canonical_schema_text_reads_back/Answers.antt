use Rattle.dr_meaning.proofs.SchemaReadsBack.{canonical_reads_back}
use Rattle.dr_meaning.proofs.schema_laws.canonical_schema_text_reads_back.Goals as goal

pub returns : goal.returns
returns c = canonical_reads_back
