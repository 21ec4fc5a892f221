use Rattle.dr_dispatch.proofs.ChoiceLemmas.{no_choice_exactly, failed_tablet_is_chosen}
use Rattle.dr_dispatch.proofs.choice_laws.no_choice_is_exact.Goals as goal

pub returns : goal.returns
returns c = record { exactly = no_choice_exactly; failed = failed_tablet_is_chosen }
