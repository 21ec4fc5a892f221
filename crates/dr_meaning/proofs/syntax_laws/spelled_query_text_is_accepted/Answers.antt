use Rattle.dr_meaning.proofs.SyntaxSpelled.{spelled_is_accepted}
use Rattle.dr_meaning.proofs.syntax_laws.spelled_query_text_is_accepted.Goals as goal

pub returns : goal.returns
returns c = spelled_is_accepted
