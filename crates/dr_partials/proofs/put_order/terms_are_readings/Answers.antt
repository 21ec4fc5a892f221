use Rattle.dr_partials.proofs.ReadingLemmas.{terms_are_readings}
use Rattle.dr_partials.proofs.put_order.terms_are_readings.Goals as goal

pub returns : goal.returns
returns c = terms_are_readings
