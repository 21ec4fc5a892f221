use Rattle.dr_partials.proofs.ReadingLemmas.{parted_readings}
use Rattle.dr_partials.proofs.put_order.parted_readings.Goals as goal

pub returns : goal.returns
returns c = parted_readings
