use Rattle.dr_dispatch.proofs.NextLemmas.{choice_is_next}
use Rattle.dr_dispatch.proofs.choice_laws.choice_is_next.Goals as goal

pub returns : goal.returns
returns c = choice_is_next
