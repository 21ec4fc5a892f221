use Rattle.dr_moves.proofs.LeadingLemmas.{led_to_records}
use Rattle.dr_moves.proofs.course_laws.led_to_records.Goals as goal

pub returns : goal.returns
returns c = led_to_records
