use Rattle.dr_dispatch.proofs.SeatLemmas.{hand_keeps, look_keeps, add_keeps, pass_keeps}
use Rattle.dr_dispatch.proofs.seat_laws.calls_keep_rule.Goals as goal

pub returns : goal.returns
returns c = record { joins = hand_keeps; looks = look_keeps; adds = add_keeps; splits = pass_keeps }
