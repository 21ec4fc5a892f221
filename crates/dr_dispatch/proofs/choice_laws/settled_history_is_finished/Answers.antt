use Rattle.dr_dispatch.proofs.ChoiceLemmas.{settled_without_choice}
use Rattle.dr_dispatch.proofs.choice_laws.settled_history_is_finished.Goals as goal

pub returns : goal.returns
returns c = settled_without_choice
