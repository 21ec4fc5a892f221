use Rattle.dr_formats.proofs.MetadataLemmas.{written_header_is_viewed, written_metadata_is_viewed}
use Rattle.dr_formats.proofs.writing_laws.written_metadata_is_viewed.Goals as goal

pub returns : goal.returns
returns c = record { file = written_metadata_is_viewed; page = written_header_is_viewed }
