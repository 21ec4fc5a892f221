use Rattle.dr_dispatch.proofs.SeatLemmas.{first_keeps, newcomer_keeps}
use Rattle.dr_dispatch.proofs.seat_laws.rule_begins.Goals as goal

pub returns : goal.returns
returns c = record { first = first_keeps; newcomer = newcomer_keeps }
