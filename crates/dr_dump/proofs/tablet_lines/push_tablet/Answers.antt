use Rattle.std.proofs.Common.{◌≡◌, ◌++◌, ◌∙◌, ℕ, List, [], ◌∷◌, length, map, false, true, Option, refl, sym, ap, subst, string_bytes, arith}
use Rattle.std.proofs.lemmas.List.{map-append}
use Rattle.dr_nested.specs.SchemaView.{schema_view}
use Rattle.dr_nested.specs.PathView.{path_view}
use Rattle.dr_table.specs.Views.{table_view}
use Rattle.dr_outside.specs.Link.{Files, Lacks}
use Rattle.dr_outside.specs.Telling.{TellsFile}
use Rattle.dr_formats.specs.Tablets.{placement}
use Rattle.dr_file.specs.OpenedFiles.{HasCounts, is_link_fault}
use Rattle.dr_file.specs.declared.file_fault.FileFault.{FileFault}
use Rattle.dr_scan.specs.FileRecords.{IsFaultOf}
use Rattle.dr_reading.specs.Scan.{Copy, copy_in, copies_from}
use Rattle.dr_reading.specs.Causes.{LeadTo}
use Rattle.dr_reading.specs.InTurn.{read_given, read_left}
use Rattle.dr_reading.specs.Left.{Tried, IsCauseAt, AreTried, causes_of}
use Rattle.dr_table.specs.LeftViews.{tried_view, all_tried_view}
use Rattle.dr_scan.proofs.CopyLemmas.{copies_next, copy_gives, copy_cause, tried_more, leads_more, not_absent, told}
use Rattle.dr_scan.proofs.AskedTablets.{copy_step}
use Rattle.dr_dump.specs.Dumps.{lines_text}
use Rattle.dr_dump.proofs.LineLemmas.{dumped}
use Rattle.dr_dump.proofs.TextLemmas.{is_some_cause, refuses}
use Rattle.dr_dump.proofs.tablet_lines.push_tablet.Goals as goal

pub returns-in-Ok-clause-read : goal.returns-in-Ok-clause-read
returns-in-Ok-clause-read g c =
    let s = schema_view c.args.table.now.schema in
    let F = map path_view c.args.fields.now in
    let ds = (table_view c.args.table.now).leaves in
    let link = g.L.Link.shows c.args.link.now in
    let inv = c.copies.invariant in
    let lines = c.in-Ok.ensures.lines in
    let path : c.as_str.result.now ≡ (copy_in ds c.args.tablet c.placement-directory.result).path = c.as_str.ensures.value ∙ c.in_ok-path.ensures in
    let tried = all_tried_view c.copies.tried.items in
    let gives = copy_gives s F link ds c.args.tablet c.args.table.now.copies c.copies.copy c.as_str.result.now lines.records tried c.copies-test.true
    (path ∙ ap (λ (d : ℕ). (copy_in ds c.args.tablet d).path) c.placement-directory.ensures.leaf) inv.tried lines.projected
    (λ bytes t. lines.file bytes (subst (λ (h : Option Files). TellsFile h c.as_str.result.now bytes) (sym inv.same) t))
    (λ lacks. not_absent (c.in-Ok.ensures.absent (subst (λ (h : Option Files). Lacks h c.as_str.result.now) (sym inv.same) lacks) (λ e. cc))) in
    let text = lines.lines ∙ (ap (λ (x : List ℕ). x ++ lines_text s.fields lines.records) inv.text
    ∙ ap (λ (x : List ℕ). string_bytes c.args.text.now ++ x) (ap (lines_text s.fields) gives.2 ∙ dumped s.fields F gives.0)) in
    (read_given tried gives.0, gives.1, subst (LeadTo link.faults (causes_of tried)) (sym (c.in-Ok.ensures.link.calm refl)) inv.leads, text)

pub returns-clause-read : goal.returns-clause-read
returns-clause-read g c =
    let s = schema_view c.args.table.now.schema in
    let F = map path_view c.args.fields.now in
    let ds = (table_view c.args.table.now).leaves in
    let tried = all_tried_view c.copies.tried.items in
    let all : c.copies.copy ≡ c.args.table.now.copies = omega (arith, c.copies-test.false, c.copies.auto.copy-end) in
    (read_left tried, subst (λ (n : ℕ). AreTried s F (g.L.Link.shows c.args.link.now) (copies_from ds c.args.tablet 0 n) tried) all c.copies.invariant.tried, c.copies.invariant.leads, refl)

pub copies-preserved : goal.copies-preserved
copies-preserved g c =
    let s = schema_view c.args.table.now.schema in
    let F = map path_view c.args.fields.now in
    let ds = (table_view c.args.table.now).leaves in
    let link = g.L.Link.shows c.args.link.now in
    let inv = c.copies.invariant in
    let old = (g.L.Link.shows c.copies.link).faults in
    let new = (g.L.Link.shows c.push_file.new.link).faults in
    let path = c.as_str.result.now in
    let fault = FileFault.Why c.in-Err-Why.cause in
    let copy = copy_in ds c.args.tablet (placement (length ds) c.args.tablet c.copies.copy) in
    let t = told c.placement-directory.result c.in-Err-Why.cause in
    let at : path ≡ copy.path = c.as_str.ensures.value ∙ c.in_ok-path.ensures ∙ ap (λ (d : ℕ). (copy_in ds c.args.tablet d).path) c.placement-directory.ensures.leaf in
    let counts = subst (HasCounts old new) c.in-Err-Why.field-0-is c.in-Err-Why.ensures.link.counts in
    let calm : is_link_fault fault ≡ false → new ≡ old = λ e. c.in-Err-Why.ensures.link.calm (ap is_link_fault c.in-Err-Why.field-0-is ∙ e) in
    let cause = copy_cause s F link path c.in-Err-Why.cause old new counts
    (λ bytes tells. subst (IsFaultOf bytes s F) c.in-Err-Why.field-0-is (c.in-Err-Why.ensures.cause bytes (subst (λ (h : Option Files). TellsFile h path bytes) (sym inv.same) tells)))
    (λ lacks. subst (λ (f : FileFault). is_link_fault f ≡ true) c.in-Err-Why.field-0-is (c.in-Err-Why.ensures.absent (subst (λ (h : Option Files). Lacks h path) (sym inv.same) lacks) (is_some_cause c.in-Err-Why.field-0 c.in-Err-Why.cause c.in-Err-Why.field-0-is)))
    (λ bytes is tells. subst (λ (f : FileFault). is_link_fault f ≡ false) c.in-Err-Why.field-0-is (c.in-Err-Why.ensures.link.steady bytes (inv.stays_steady is, subst (λ (h : Option Files). TellsFile h path bytes) (sym inv.same) tells))) in
    let more : all_tried_view c.push.new.self.items ≡ all_tried_view c.copies.tried.items ++ t ∷ [] = ap all_tried_view c.in_ok-push-in-Err-Why.ensures.items ∙ map-append tried_view c.copies.tried.items _ in
    record {
      tried = subst (λ (cs : List Copy). AreTried s F link cs (all_tried_view c.push.new.self.items)) (sym (copies_next ds c.args.tablet c.copies.copy))
          (tried_more s F link (copies_from ds c.args.tablet 0 c.copies.copy) _ _ copy t inv.tried c.placement-directory.ensures.leaf (subst (λ (p : List ℕ). IsCauseAt s F link p c.in-Err-Why.cause) at cause) more);
      leads = leads_more link.faults old new (causes_of (all_tried_view c.copies.tried.items)) _ c.in-Err-Why.cause inv.leads counts calm
          (ap causes_of more ∙ map-append (λ (x : Tried). x.cause) (all_tried_view c.copies.tried.items) (t ∷ []));
      same = c.push_file.ensures.link.same ∙ inv.same;
      stays_steady = λ is. c.push_file.ensures.link.stays_steady (inv.stays_steady is);
      never_falls = omega (arith, inv.never_falls, c.push_file.ensures.never_falls);
      asks = copy_step F link (g.L.Link.shows c.copies.link) (g.L.Link.shows c.push_file.new.link) ds c.args.tablet c.args.table.now.copies c.copies.copy path c.copies-test.true at inv.same inv.asks
          c.push_file.ensures.asked c.push_file.ensures.asked_absent c.push_file.ensures.paths;
      text = c.in-Err-Why.ensures.stays c.in-Err-Why.cause (ap refuses c.in-Err-Why.field-0-is) ∙ inv.text;
    }

pub returns-in-Ok-clause-asks : goal.returns-in-Ok-clause-asks
returns-in-Ok-clause-asks g c =
    let ds = (table_view c.args.table.now).leaves in
    let path = c.as_str.result.now in
    let at : path ≡ (copy_in ds c.args.tablet (placement (length ds) c.args.tablet c.copies.copy)).path = c.as_str.ensures.value ∙ c.in_ok-path.ensures ∙ ap (λ (d : ℕ). (copy_in ds c.args.tablet d).path) c.placement-directory.ensures.leaf in
    copy_step (map path_view c.args.fields.now) (g.L.Link.shows c.args.link.now) (g.L.Link.shows c.copies.link) (g.L.Link.shows c.push_file.new.link) ds c.args.tablet c.args.table.now.copies c.copies.copy path c.copies-test.true at
    c.copies.invariant.same c.copies.invariant.asks c.push_file.ensures.asked c.push_file.ensures.asked_absent c.push_file.ensures.paths

pub returns-in-Err-NoMemory-clause-asks : goal.returns-in-Err-NoMemory-clause-asks
returns-in-Err-NoMemory-clause-asks g c =
    let ds = (table_view c.args.table.now).leaves in
    let path = c.as_str.result.now in
    let at : path ≡ (copy_in ds c.args.tablet (placement (length ds) c.args.tablet c.copies.copy)).path = c.as_str.ensures.value ∙ c.in_ok-path.ensures ∙ ap (λ (d : ℕ). (copy_in ds c.args.tablet d).path) c.placement-directory.ensures.leaf in
    copy_step (map path_view c.args.fields.now) (g.L.Link.shows c.args.link.now) (g.L.Link.shows c.copies.link) (g.L.Link.shows c.push_file.new.link) ds c.args.tablet c.args.table.now.copies c.copies.copy path c.copies-test.true at
    c.copies.invariant.same c.copies.invariant.asks c.push_file.ensures.asked c.push_file.ensures.asked_absent c.push_file.ensures.paths

pub returns-in_err-push-in-Err-Why-clause-asks : goal.returns-in_err-push-in-Err-Why-clause-asks
returns-in_err-push-in-Err-Why-clause-asks g c =
    let ds = (table_view c.args.table.now).leaves in
    let path = c.as_str.result.now in
    let at : path ≡ (copy_in ds c.args.tablet (placement (length ds) c.args.tablet c.copies.copy)).path = c.as_str.ensures.value ∙ c.in_ok-path.ensures ∙ ap (λ (d : ℕ). (copy_in ds c.args.tablet d).path) c.placement-directory.ensures.leaf in
    copy_step (map path_view c.args.fields.now) (g.L.Link.shows c.args.link.now) (g.L.Link.shows c.copies.link) (g.L.Link.shows c.push_file.new.link) ds c.args.tablet c.args.table.now.copies c.copies.copy path c.copies-test.true at
    c.copies.invariant.same c.copies.invariant.asks c.push_file.ensures.asked c.push_file.ensures.asked_absent c.push_file.ensures.paths
