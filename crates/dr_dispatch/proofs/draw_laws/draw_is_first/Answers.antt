use Rattle.dr_dispatch.proofs.DrawLemmas.{hand_is_chosen_or_fresh, no_hand_is_no_choice}
use Rattle.dr_dispatch.proofs.draw_laws.draw_is_first.Goals as goal

pub returns : goal.returns
returns c = record { hand = hand_is_chosen_or_fresh; none = no_hand_is_no_choice }
