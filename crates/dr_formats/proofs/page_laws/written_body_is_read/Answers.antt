use Rattle.dr_formats.proofs.PageLemmas.{written_body_is_read}
use Rattle.dr_formats.proofs.page_laws.written_body_is_read.Goals as goal

pub returns : goal.returns
returns c = written_body_is_read
