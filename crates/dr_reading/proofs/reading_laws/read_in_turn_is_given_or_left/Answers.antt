use Rattle.dr_reading.proofs.InTurnLemmas.{read_in_turn_is_given, read_in_turn_leaves_just, left_rise_apart}
use Rattle.dr_reading.proofs.reading_laws.read_in_turn_is_given_or_left.Goals as goal

pub returns : goal.returns
returns c = record { given = read_in_turn_is_given; left = read_in_turn_leaves_just; apart = left_rise_apart }
