use Rattle.dr_dispatch.proofs.DrawnLemmas.{none_are_drawn, drawing_keeps, drawing_is_drawn, drawn_are_below}
use Rattle.dr_dispatch.proofs.seat_laws.draws_keep_rule.Goals as goal

pub returns : goal.returns
returns c = record { first = none_are_drawn; history = drawing_keeps; draws = drawing_is_drawn; below = drawn_are_below }
