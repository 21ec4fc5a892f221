use Rattle.dr_dispatch.proofs.ChoiceLemmas.{choice_is_recorded, answered_is_not_chosen}
use Rattle.dr_dispatch.proofs.choice_laws.choice_is_recorded.Goals as goal

pub returns : goal.returns
returns c = record { recorded = choice_is_recorded; unanswered = answered_is_not_chosen }
