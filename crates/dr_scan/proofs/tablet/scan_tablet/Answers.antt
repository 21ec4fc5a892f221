use Rattle.std.proofs.Common.{◌≡◌, ℕ, List, [], ◌∷◌, ◌++◌, length, false, true, Option, refl, sym, ap, subst, ◌∙◌, arith}
use Rattle.std.proofs.lemmas.List.{map-append}
use Rattle.dr_nested.specs.SchemaView.{schema_view}
use Rattle.dr_table.specs.Views.{table_view}
use Rattle.dr_outside.specs.Link.{Files, Lacks}
use Rattle.dr_outside.specs.Telling.{TellsFile}
use Rattle.dr_formats.specs.Tablets.{placement}
use Rattle.dr_file.specs.OpenedFiles.{HasCounts, is_link_fault}
use Rattle.dr_file.specs.declared.file_fault.FileFault.{FileFault}
use Rattle.dr_group.specs.Partials.{partial_view}
use Rattle.dr_plan.specs.Planned.{plan_leaves}
use Rattle.dr_scan.specs.FileRecords.{IsFaultOf}
use Rattle.dr_reading.specs.Scan.{Copy, copy_in, copies_from}
use Rattle.dr_reading.specs.Causes.{LeadTo}
use Rattle.dr_reading.specs.InTurn.{read_given, read_left}
use Rattle.dr_reading.specs.Left.{Tried, IsCauseAt, AreTried, causes_of}
use Rattle.dr_table.specs.LeftViews.{tried_view, all_tried_view}
use Rattle.dr_scan.proofs.CopyLemmas.{copies_next, copy_cause, tried_more, leads_more, not_absent, told}
use Rattle.dr_scan.proofs.AskedTablets.{copy_step}
use Rattle.dr_scan.proofs.ScanLemmas.{leaves_are}
use Rattle.dr_scan.proofs.TabletLemmas.{first_stands, all_tried, no_memory}
use Rattle.dr_scan.proofs.tablet.scan_tablet.Goals as goal

pub returns-in-Ok-clause-read : goal.returns-in-Ok-clause-read
returns-in-Ok-clause-read g c = λ q is.
    let s = schema_view c.args.table.now.schema in
    let F = plan_leaves c.args.plan.now in
    let ds = (table_view c.args.table.now).leaves in
    let link = g.L.Link.shows c.args.link.now in
    let at = c.as_str.result.now in
    let path : at ≡ (copy_in ds c.args.tablet c.placement-directory.result).path = c.as_str.ensures.value ∙ c.in_ok-path.ensures in
    let tried = all_tried_view c.copies.tried.items in
    let stands = first_stands s q F link ds c.args.tablet c.args.table.now.copies c.copies.copy at (partial_view c.in-Ok.partial) tried (leaves_are s q c.args.plan.now is) c.copies-test.true
    (path ∙ ap (λ (d : ℕ). (copy_in ds c.args.tablet d).path) c.placement-directory.ensures.leaf) c.copies.invariant.0 (c.in-Ok.ensures.records q is)
    (λ bytes t. c.in-Ok.ensures.stands bytes (subst (λ (h : Option Files). TellsFile h at bytes) (sym c.copies.invariant.2) t) q is)
    (λ lacks. not_absent (c.in-Ok.ensures.absent (subst (λ (h : Option Files). Lacks h at) (sym c.copies.invariant.2) lacks) (λ e. cc))) in
    (read_given tried stands.0, stands.1, subst (LeadTo link.faults (causes_of tried)) (sym (c.in-Ok.ensures.link.calm refl)) c.copies.invariant.1, stands.2)

pub copies-preserved : goal.copies-preserved
copies-preserved g c =
    let s = schema_view c.args.table.now.schema in
    let F = plan_leaves c.args.plan.now in
    let ds = (table_view c.args.table.now).leaves in
    let link = g.L.Link.shows c.args.link.now in
    let old = (g.L.Link.shows c.copies.link).faults in
    let new = (g.L.Link.shows c.scan.new.link).faults in
    let path = c.as_str.result.now in
    let fault = FileFault.Why c.in-Err-Why.cause in
    let copy = copy_in ds c.args.tablet (placement (length ds) c.args.tablet c.copies.copy) in
    let t = told c.placement-directory.result c.in-Err-Why.cause in
    let at : path ≡ copy.path = c.as_str.ensures.value ∙ c.in_ok-path.ensures ∙ ap (λ (d : ℕ). (copy_in ds c.args.tablet d).path) c.placement-directory.ensures.leaf in
    let counts = subst (HasCounts old new) c.in-Err-Why.field-0-is c.in-Err-Why.ensures.link.counts in
    let calm : is_link_fault fault ≡ false → new ≡ old = λ e. c.in-Err-Why.ensures.link.calm (ap is_link_fault c.in-Err-Why.field-0-is ∙ e) in
    let cause = copy_cause s F link path c.in-Err-Why.cause old new counts
    (λ bytes tells. subst (IsFaultOf bytes s F) c.in-Err-Why.field-0-is (c.in-Err-Why.ensures.cause bytes (subst (λ (h : Option Files). TellsFile h path bytes) (sym c.copies.invariant.2) tells)))
    (λ lacks. subst (λ (f : FileFault). is_link_fault f ≡ true) c.in-Err-Why.field-0-is (c.in-Err-Why.ensures.absent (subst (λ (h : Option Files). Lacks h path) (sym c.copies.invariant.2) lacks) (λ e. no_memory c.in-Err-Why.field-0 c.in-Err-Why.cause c.in-Err-Why.field-0-is e)))
    (λ bytes is tells. subst (λ (f : FileFault). is_link_fault f ≡ false) c.in-Err-Why.field-0-is (c.in-Err-Why.ensures.link.steady bytes (c.copies.invariant.3 is, subst (λ (h : Option Files). TellsFile h path bytes) (sym c.copies.invariant.2) tells))) in
    let more : all_tried_view c.push.new.self.items ≡ all_tried_view c.copies.tried.items ++ t ∷ [] = ap all_tried_view c.in_ok-push-in-Err-Why.ensures.items ∙ map-append tried_view c.copies.tried.items _ in (
      subst (λ (cs : List Copy). AreTried s F link cs (all_tried_view c.push.new.self.items)) (sym (copies_next ds c.args.tablet c.copies.copy))
          (tried_more s F link (copies_from ds c.args.tablet 0 c.copies.copy) _ _ copy t c.copies.invariant.0 c.placement-directory.ensures.leaf (subst (λ (p : List ℕ). IsCauseAt s F link p c.in-Err-Why.cause) at cause) more),
      leads_more link.faults old new (causes_of (all_tried_view c.copies.tried.items)) _ c.in-Err-Why.cause c.copies.invariant.1 counts calm
          (ap causes_of more ∙ map-append (λ (x : Tried). x.cause) (all_tried_view c.copies.tried.items) (t ∷ [])),
      c.scan.ensures.link.same ∙ c.copies.invariant.2,
      λ is. c.scan.ensures.link.stays_steady (c.copies.invariant.3 is),
      omega (arith, c.copies.invariant.4, c.scan.ensures.never_falls),
      copy_step F link (g.L.Link.shows c.copies.link) (g.L.Link.shows c.scan.new.link) ds c.args.tablet c.args.table.now.copies c.copies.copy path c.copies-test.true at c.copies.invariant.2 c.copies.invariant.5 c.scan.ensures.asked
          c.scan.ensures.asked_absent c.scan.ensures.paths,
    )

pub returns-in-Ok-clause-asks : goal.returns-in-Ok-clause-asks
returns-in-Ok-clause-asks g c =
    let ds = (table_view c.args.table.now).leaves in
    let path = c.as_str.result.now in
    let at : path ≡ (copy_in ds c.args.tablet (placement (length ds) c.args.tablet c.copies.copy)).path = c.as_str.ensures.value ∙ c.in_ok-path.ensures ∙ ap (λ (d : ℕ). (copy_in ds c.args.tablet d).path) c.placement-directory.ensures.leaf in
    copy_step (plan_leaves c.args.plan.now) (g.L.Link.shows c.args.link.now) (g.L.Link.shows c.copies.link) (g.L.Link.shows c.scan.new.link) ds c.args.tablet c.args.table.now.copies c.copies.copy path c.copies-test.true at c.copies.invariant.2
    c.copies.invariant.5 c.scan.ensures.asked c.scan.ensures.asked_absent c.scan.ensures.paths

pub returns-clause-read : goal.returns-clause-read
returns-clause-read g c = λ q is.
    let s = schema_view c.args.table.now.schema in
    let all : c.copies.copy ≡ c.args.table.now.copies = omega (arith, c.copies-test.false, c.copies.auto.copy-end) in
    let tried = all_tried_view c.copies.tried.items in (
      read_left tried,
      all_tried s q (plan_leaves c.args.plan.now) (g.L.Link.shows c.args.link.now) (table_view c.args.table.now).leaves c.args.tablet c.copies.copy c.args.table.now.copies tried (leaves_are s q c.args.plan.now is) all c.copies.invariant.0,
      c.copies.invariant.1,
      refl,
    )

pub returns-in-Err-NoMemory-clause-asks : goal.returns-in-Err-NoMemory-clause-asks
returns-in-Err-NoMemory-clause-asks g c =
    let ds = (table_view c.args.table.now).leaves in
    let path = c.as_str.result.now in
    let at : path ≡ (copy_in ds c.args.tablet (placement (length ds) c.args.tablet c.copies.copy)).path = c.as_str.ensures.value ∙ c.in_ok-path.ensures ∙ ap (λ (d : ℕ). (copy_in ds c.args.tablet d).path) c.placement-directory.ensures.leaf in
    copy_step (plan_leaves c.args.plan.now) (g.L.Link.shows c.args.link.now) (g.L.Link.shows c.copies.link) (g.L.Link.shows c.scan.new.link) ds c.args.tablet c.args.table.now.copies c.copies.copy path c.copies-test.true at c.copies.invariant.2
    c.copies.invariant.5 c.scan.ensures.asked c.scan.ensures.asked_absent c.scan.ensures.paths

pub returns-in_err-push-in-Err-Why-clause-asks : goal.returns-in_err-push-in-Err-Why-clause-asks
returns-in_err-push-in-Err-Why-clause-asks g c =
    let ds = (table_view c.args.table.now).leaves in
    let path = c.as_str.result.now in
    let at : path ≡ (copy_in ds c.args.tablet (placement (length ds) c.args.tablet c.copies.copy)).path = c.as_str.ensures.value ∙ c.in_ok-path.ensures ∙ ap (λ (d : ℕ). (copy_in ds c.args.tablet d).path) c.placement-directory.ensures.leaf in
    copy_step (plan_leaves c.args.plan.now) (g.L.Link.shows c.args.link.now) (g.L.Link.shows c.copies.link) (g.L.Link.shows c.scan.new.link) ds c.args.tablet c.args.table.now.copies c.copies.copy path c.copies-test.true at c.copies.invariant.2
    c.copies.invariant.5 c.scan.ensures.asked c.scan.ensures.asked_absent c.scan.ensures.paths
