use Rattle.dr_reading.proofs.HeldFileLemmas.{left_failed_to_read, steady_leaves_no_tablet}
use Rattle.dr_reading.proofs.reading_laws.held_files_are_read.Goals as goal

pub returns : goal.returns
returns c = record { failed = left_failed_to_read; steady = steady_leaves_no_tablet }
