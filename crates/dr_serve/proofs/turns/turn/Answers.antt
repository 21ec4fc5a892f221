use Rattle.std.proofs.Common.{◌≡◌, List, ℕ, false, true, ap, ◌∙◌, subst}
use borrow.Enum.Total.{values_d}
use Rattle.dr_file.specs.OpenedFiles.{HasCounts, is_link_fault}
use Rattle.dr_file.specs.declared.file_fault.FileFault.{FileFault}
use Rattle.dr_file.specs.contracts.file_fault.FileFault.{enum}
use Rattle.dr_outside.specs.declared.cause.Cause.{Cause}
use Rattle.dr_desk.specs.Calls.{IsFaultTold}
use Rattle.dr_group.specs.Partials.{partial_view}
use Rattle.dr_plan.specs.Planned.{plan_leaves}
use Rattle.dr_reading.specs.Left.{IsCauseAt}
use Rattle.dr_table.specs.Views.{table_view}
use Rattle.dr_scan.specs.FileRecords.{IsFaultOf}
use Rattle.dr_scan.proofs.CopyLemmas.{copy_cause}
use Rattle.dr_scan.proofs.TabletLemmas.{no_memory}
use Rattle.dr_serve.specs.Working.{hand_path, IsRisenFor}
use Rattle.dr_serve.proofs.TruthLemmas.{true_at_copy}
use Rattle.dr_serve.proofs.TurnLemmas.{hand_of_table, scan_worked, fault_tells, one_rises}
use Rattle.dr_serve.proofs.turns.turn.Goals as goal

pub path_of-requires : goal.path_of-requires
path_of-requires g c = (hand_of_table c.args.table.now g.S.TableJob.job c.args.pass.now.seen c.args.hand c.requires.job c.requires.recorded c.requires.given).leaf_is

pub add-requires-clause-truth : goal.add-requires-clause-truth
add-requires-clause-truth g c =
    let t = table_view c.args.table.now in
    let at : c.as_str.result.now ≡ hand_path t c.args.hand = c.as_str.ensures.value ∙ c.in_ok-path.ensures in
    let of = hand_of_table c.args.table.now g.S.TableJob.job c.args.pass.now.seen c.args.hand c.requires.job c.requires.recorded c.requires.given in
    c.requires.truth c.args.hand.tablet c.in-Ok.partial (record {
      of_plan = c.in-Ok.ensures.of_plan;
      records = λ q is. c.in-Ok.ensures.records q is;
      truth = λ q is.
          true_at_copy t q (g.L.Link.shows c.args.link.now).held c.args.hand.tablet c.args.hand.leaf c.as_str.result.now (partial_view c.in-Ok.partial) of at (c.in-Ok.ensures.truth q is);
    })

pub returns-in-Ok-clause-link : goal.returns-in-Ok-clause-link
returns-in-Ok-clause-link g c =
    scan_worked (table_view c.args.table.now) c.args.plan.now c.args.hand c.as_str.result.now (g.L.Link.shows c.args.link.now) (g.L.Link.shows c.scan.new.link)
    (hand_of_table c.args.table.now g.S.TableJob.job c.args.pass.now.seen c.args.hand c.requires.job c.requires.recorded c.requires.given) (c.as_str.ensures.value ∙ c.in_ok-path.ensures)
    c.scan.ensures.asked c.scan.ensures.asked_absent c.scan.ensures.paths c.scan.ensures.link.same c.scan.ensures.never_falls c.scan.ensures.link.stays_steady

pub returns-in-Err-NoMemory-clause-link : goal.returns-in-Err-NoMemory-clause-link
returns-in-Err-NoMemory-clause-link g c =
    scan_worked (table_view c.args.table.now) c.args.plan.now c.args.hand c.as_str.result.now (g.L.Link.shows c.args.link.now) (g.L.Link.shows c.scan.new.link)
    (hand_of_table c.args.table.now g.S.TableJob.job c.args.pass.now.seen c.args.hand c.requires.job c.requires.recorded c.requires.given) (c.as_str.ensures.value ∙ c.in_ok-path.ensures)
    c.scan.ensures.asked c.scan.ensures.asked_absent c.scan.ensures.paths c.scan.ensures.link.same c.scan.ensures.never_falls c.scan.ensures.link.stays_steady

pub returns-clause-link : goal.returns-clause-link
returns-clause-link g c =
    scan_worked (table_view c.args.table.now) c.args.plan.now c.args.hand c.as_str.result.now (g.L.Link.shows c.args.link.now) (g.L.Link.shows c.scan.new.link)
    (hand_of_table c.args.table.now g.S.TableJob.job c.args.pass.now.seen c.args.hand c.requires.job c.requires.recorded c.requires.given) (c.as_str.ensures.value ∙ c.in_ok-path.ensures)
    c.scan.ensures.asked c.scan.ensures.asked_absent c.scan.ensures.paths c.scan.ensures.link.same c.scan.ensures.never_falls c.scan.ensures.link.stays_steady

pub returns-in_err-added-in-Ok-clause-link : goal.returns-in_err-added-in-Ok-clause-link
returns-in_err-added-in-Ok-clause-link g c =
    scan_worked (table_view c.args.table.now) c.args.plan.now c.args.hand c.as_str.result.now (g.L.Link.shows c.args.link.now) (g.L.Link.shows c.scan.new.link)
    (hand_of_table c.args.table.now g.S.TableJob.job c.args.pass.now.seen c.args.hand c.requires.job c.requires.recorded c.requires.given) (c.as_str.ensures.value ∙ c.in_ok-path.ensures)
    c.scan.ensures.asked c.scan.ensures.asked_absent c.scan.ensures.paths c.scan.ensures.link.same c.scan.ensures.never_falls c.scan.ensures.link.stays_steady

pub returns-clause-told : goal.returns-clause-told
returns-clause-told g c =
    let t = table_view c.args.table.now in
    let F = plan_leaves c.args.plan.now in
    let link = g.L.Link.shows c.args.link.now in
    let old = link.faults in
    let new = (g.L.Link.shows c.scan.new.link).faults in
    let path = c.as_str.result.now in
    let at : path ≡ hand_path t c.args.hand = c.as_str.ensures.value ∙ c.in_ok-path.ensures in
    let counts = subst (HasCounts old new) c.in-Err-Why.field-0-is c.in-Err-Why.ensures.link.counts in
    let cause = copy_cause t.schema F link path c.in-Err-Why.cause old new counts
    (λ bytes tells. subst (IsFaultOf bytes t.schema F) c.in-Err-Why.field-0-is (c.in-Err-Why.ensures.cause bytes tells))
    (λ lacks. subst (λ (f : FileFault). is_link_fault f ≡ true) c.in-Err-Why.field-0-is (c.in-Err-Why.ensures.absent lacks (λ e. no_memory c.in-Err-Why.field-0 c.in-Err-Why.cause c.in-Err-Why.field-0-is e)))
    (λ bytes is tells. subst (λ (f : FileFault). is_link_fault f ≡ false) c.in-Err-Why.field-0-is (c.in-Err-Why.ensures.link.steady bytes (is, tells))) in
    fault_tells (IsRisenFor t c.args.plan.now link (g.L.Link.shows c.scan.new.link)) g.S.TableJob.job c.args.hand c.in-Err-Why.cause c.args.pass.now c.fault.new.pass c.fault.result
    (subst (λ (p : List ℕ). IsCauseAt t.schema F link p c.in-Err-Why.cause) at cause, one_rises old new c.in-Err-Why.cause counts c.scan.ensures.never_falls)
    (subst (λ (x : Cause). IsFaultTold g.S.TableJob.job c.args.hand x c.args.pass.now c.fault.new.pass c.fault.result) (ap (λ (f : FileFault). (values_d enum 1 (Cause.ReadFailed 0 0, tt) f).0) c.in-Err-Why.field-0-is) c.fault.ensures.told)
