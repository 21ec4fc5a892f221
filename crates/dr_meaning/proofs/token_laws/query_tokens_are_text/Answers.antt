use Rattle.dr_meaning.proofs.QueryTokenLemmas.{query_tokens_are_text}
use Rattle.dr_meaning.proofs.OneQueryTokenLemmas.{one_list_of_query_tokens}
use Rattle.dr_meaning.proofs.token_laws.query_tokens_are_text.Goals as goal

pub returns : goal.returns
returns c = record { text = query_tokens_are_text; no_other = one_list_of_query_tokens }
