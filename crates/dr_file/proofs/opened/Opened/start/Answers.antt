use Rattle.std.proofs.Common.{map}
use Rattle.dr_formats.specs.Opening.{opening_cause}
use Rattle.dr_nested.specs.PathView.{path_view}
use Rattle.dr_file.proofs.StartLemmas.{cause_told}
use Rattle.dr_file.proofs.LeavingLemmas.{fault_leaves}
use Rattle.dr_file.proofs.opened.Opened.start.Goals as goal

pub returns-in-Err-clause-cause : goal.returns-in-Err-clause-cause
returns-in-Err-clause-cause g c = λ bytes told.
    rw c.file_fault.ensures (cause_told c.in-Err.fault _ _ (opening_cause bytes (map path_view c.args.fields.now)) (λ n. c.in-Err.ensures.cause bytes told (λ e. n (cc))))

pub returns-in-Err-clause-link : goal.returns-in-Err-clause-link
returns-in-Err-clause-link g c =
    fault_leaves c.in-Err.fault _ _ _ _ _ _ c.file_fault.ensures c.faults-before.ensures c.faults.ensures c.in-Err.ensures.link
