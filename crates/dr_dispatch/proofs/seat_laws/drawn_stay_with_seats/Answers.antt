use Rattle.dr_dispatch.proofs.DrawnLemmas.{others_are_drawn, splits_are_drawn, joins_are_drawn}
use Rattle.dr_dispatch.proofs.seat_laws.drawn_stay_with_seats.Goals as goal

pub returns : goal.returns
returns c = record { others = others_are_drawn; splits = splits_are_drawn; joins = joins_are_drawn }
