use Rattle.dr_meaning.proofs.SyntaxAccepted.{accepted_is_spelled}
use Rattle.dr_meaning.proofs.SyntaxSpelled.{one_tree}
use Rattle.dr_meaning.proofs.syntax_laws.accepted_query_text_is_spelled.Goals as goal

pub returns : goal.returns
returns c = record { tree = accepted_is_spelled; no_other = one_tree }
