use Rattle.dr_meaning.proofs.TokenLemmas.{tokens_are_text}
use Rattle.dr_meaning.proofs.OneTokenLemmas.{one_list_of_tokens}
use Rattle.dr_meaning.proofs.token_laws.schema_tokens_are_text.Goals as goal

pub returns : goal.returns
returns c = record { text = tokens_are_text; no_other = one_list_of_tokens }
