use Rattle.std.proofs.Common.{refl}
use Rattle.dr_formats.specs.Opening.{leaf_cause}
use Rattle.dr_file.proofs.AskLemmas.{reads_are_there}
use Rattle.dr_file.proofs.ColumnLemmas.{chunk_cause_told}
use Rattle.dr_file.proofs.stream.Stream.next.Goals as goal

pub returns-in-Ok-clause-paths : goal.returns-in-Ok-clause-paths
returns-in-Ok-clause-paths g c = reads_are_there _ _ _ _ _ refl c.in-Ok.ensures.asked

pub returns-in-Err-clause-paths : goal.returns-in-Err-clause-paths
returns-in-Err-clause-paths g c = reads_are_there _ _ _ _ _ refl c.in-Err.ensures.asked

pub returns-in-Err-clause-cause : goal.returns-in-Err-clause-cause
returns-in-Err-clause-cause g c = λ bytes l given s told.
    rw c.file_fault-fault.ensures (chunk_cause_told c.in-Err.fault _ _ (leaf_cause bytes l) (λ e. c.in-Err.ensures.bad bytes l given s told (cc)))
