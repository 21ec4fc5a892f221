use Rattle.std.proofs.Common.{List, map, length, subst, ap, ◌∙◌}
use Rattle.dr_nested.specs.SchemaView.{schema_view}
use Rattle.dr_nested.specs.PathView.{path_view}
use Rattle.dr_nested.specs.declared.path.Path.{Path}
use Rattle.dr_formats.specs.Opening.{reader_ranges}
use Rattle.dr_outside.specs.Telling.{AsksOnly, Serves}
use Rattle.dr_file.specs.Asking.{is_request_for}
use Rattle.dr_file.specs.OpenedFiles.{rows_of}
use Rattle.dr_file.specs.Leaving.{ServesOpened}
use Rattle.dr_file.proofs.LeavingLemmas.{same_fault_leaves, value_leaves, then_leaves, serves_opened}
use Rattle.dr_group.specs.Partials.{partial_view}
use Rattle.dr_plan.specs.Planned.{plan_leaves}
use Rattle.dr_table.specs.Counting.{counted}
use Rattle.dr_scan.specs.FileRecords.{IsFaultOf}
use Rattle.dr_scan.proofs.AskedLemmas.{opening_asked, file_asked, columns_there}
use Rattle.dr_scan.proofs.ColumnsLemmas.{err_is, never_falls}
use Rattle.dr_scan.proofs.CopyLemmas.{not_absent}
use Rattle.dr_scan.proofs.FewLemmas.{taken_counted}
use Rattle.dr_scan.proofs.RecordsLemmas.{opened_fault}
use Rattle.dr_scan.proofs.LiteralLemmas.{sums_small}
use Rattle.dr_scan.proofs.ScanLemmas.{gives_partial, stands_for_records, stands_for_bytes, columns_counted, gives_few, truth_is}
use Rattle.dr_scan.proofs.FileLemmas.{told_then, opened_columns}
use Rattle.dr_scan.proofs.scanning.scan.Goals as goal

pub partial_of_opened-requires : goal.partial_of_opened-requires
partial_of_opened-requires g c = record { planned = c.requires.planned; count = c.in_ok-opened.ensures.count ∙ ap length c.deref.ensures.value }

pub returns-clause-partial : goal.returns-clause-partial
returns-clause-partial g c = λ q is.
    let w = c.in_ok-made.ensures.partial in
    gives_partial (schema_view c.args.schema.now) q c.args.plan.now w.columns (rows_of c.in_ok-opened.opened) (partial_view c.in_ok-made.made.partial) is w.partial

pub returns-clause-bounded : goal.returns-clause-bounded
returns-clause-bounded g c =
    let w = c.in_ok-made.ensures.partial in
    let o = c.in_ok-opened.opened in
    gives_few (schema_view c.args.schema.now) c.args.plan.now w.columns (rows_of o) (partial_view c.in_ok-made.made.partial) c.requires.planned w.partial w.short o.few (sums_small c.args.plan.now)

pub returns-clause-of_plan : goal.returns-clause-of_plan
returns-clause-of_plan g c = c.in_ok-made.ensures.partial.of_plan

pub returns-clause-records : goal.returns-clause-records
returns-clause-records g c = λ q is.
    let w = c.in_ok-made.ensures.partial in
    stands_for_records (schema_view c.args.schema.now) q c.args.plan.now w.columns (rows_of c.in_ok-opened.opened) (partial_view c.in_ok-made.made.partial) is w.partial

pub returns-clause-stands : goal.returns-clause-stands
returns-clause-stands g c = λ bytes tells q is.
    let s = schema_view c.args.schema.now in
    let p = c.args.plan.now in
    let o = c.in_ok-opened.opened in
    let w = c.in_ok-made.ensures.partial in
    let told = told_then c.deref.result.now p o (g.L.Link.shows c.args.link.now) (g.L.Link.shows c.start.new.link) c.args.path.now bytes c.deref.ensures.value c.in_ok-opened.ensures.path c.start.ensures.link.same (c.in_ok-opened.ensures.opened bytes tells) tells in
    stands_for_bytes s q p w.columns (rows_of o) (partial_view c.in_ok-made.made.partial) bytes is w.partial (opened_columns bytes s p (g.L.Link.shows c.start.new.link).held o c.in_ok-made.made w told)

pub returns-clause-truth : goal.returns-clause-truth
returns-clause-truth g c = λ q is.
    let s = schema_view c.args.schema.now in
    let p = c.args.plan.now in
    let o = c.in_ok-opened.opened in
    let w = c.in_ok-made.ensures.partial in
    let x = partial_view c.in_ok-made.made.partial in
    truth_is s q (g.L.Link.shows c.args.link.now).held c.args.path.now x (gives_partial s q p w.columns (rows_of o) x is w.partial)
    (gives_few s p w.columns (rows_of o) x c.requires.planned w.partial w.short o.few (sums_small p))
    (λ bytes tells.
    let told = told_then c.deref.result.now p o (g.L.Link.shows c.args.link.now) (g.L.Link.shows c.start.new.link) c.args.path.now bytes c.deref.ensures.value c.in_ok-opened.ensures.path c.start.ensures.link.same (c.in_ok-opened.ensures.opened bytes tells) tells in
    stands_for_bytes s q p w.columns (rows_of o) x bytes is w.partial (opened_columns bytes s p (g.L.Link.shows c.start.new.link).held o c.in_ok-made.made w told))
    (λ lacks. not_absent (c.in_ok-opened.ensures.absent lacks (λ e. cc)))

pub returns-in_err-opened-clause-cause : goal.returns-in_err-opened-clause-cause
returns-in_err-opened-clause-cause g c = λ bytes tells.
    let s = schema_view c.args.schema.now in
    let p = c.args.plan.now in
    err_is (IsFaultOf bytes s (plan_leaves p)) _ c.in_err-opened.field-0.0 c.from_residual.ensures.1
    (subst (λ (ms : List Path). IsFaultOf bytes s (map path_view ms) c.in_err-opened.field-0.0) c.deref.ensures.value
    (opened_fault bytes s (map path_view c.deref.result.now) c.in_err-opened.field-0.0 (c.in_err-opened.ensures.cause bytes tells)))

pub returns-in_err-made-clause-cause : goal.returns-in_err-made-clause-cause
returns-in_err-made-clause-cause g c = λ bytes tells.
    let s = schema_view c.args.schema.now in
    let p = c.args.plan.now in
    let told = told_then c.deref.result.now p c.in_ok-opened.opened (g.L.Link.shows c.args.link.now) (g.L.Link.shows c.start.new.link) c.args.path.now bytes c.deref.ensures.value c.in_ok-opened.ensures.path c.start.ensures.link.same (c.in_ok-opened.ensures.opened bytes tells) tells in
    err_is (IsFaultOf bytes s (plan_leaves p)) _ c.in_err-made.field-0.0 c.from_residual-in_err-made.ensures.1 (c.in_err-made.ensures.cause bytes told)

pub returns-in_err-opened-clause-link : goal.returns-in_err-opened-clause-link
returns-in_err-opened-clause-link g c = same_fault_leaves _ c.in_err-opened.field-0.0 _ _ _ c.from_residual.ensures.1 c.in_err-opened.ensures.link

pub returns-in_err-made-clause-link : goal.returns-in_err-made-clause-link
returns-in_err-made-clause-link g c =
    let before = g.L.Link.shows c.args.link.now in
    let between = g.L.Link.shows c.start.new.link in
    let start = c.start.ensures.link in
    let o = c.in_ok-opened.opened in
    let opened = c.in_ok-opened.ensures in
    then_leaves o _ (Serves before c.args.path.now) (ServesOpened between o) before between _ opened.link
    (λ bytes s. serves_opened o before between c.args.path.now (map path_view c.deref.result.now) bytes opened.path start.same start.stays_steady (opened.opened bytes s.1) s)
    (same_fault_leaves _ c.in_err-made.field-0.0 _ _ _ c.from_residual-in_err-made.ensures.1 c.in_err-made.ensures.link)

pub returns-clause-link : goal.returns-clause-link
returns-clause-link g c =
    let before = g.L.Link.shows c.args.link.now in
    let between = g.L.Link.shows c.start.new.link in
    let start = c.start.ensures.link in
    let o = c.in_ok-opened.opened in
    let opened = c.in_ok-opened.ensures in
    then_leaves o _ (Serves before c.args.path.now) (ServesOpened between o) before between _ opened.link
    (λ bytes s. serves_opened o before between c.args.path.now (map path_view c.deref.result.now) bytes opened.path start.same start.stays_steady (opened.opened bytes s.1) s)
    (value_leaves c.in_ok-made.made _ _ _ _ c.in_ok-made.ensures.link)

pub returns-in_err-opened-clause-never_falls : goal.returns-in_err-opened-clause-never_falls
returns-in_err-opened-clause-never_falls g c = never_falls _ _ _ _ (returns-in_err-opened-clause-link g c)

pub returns-in_err-made-clause-never_falls : goal.returns-in_err-made-clause-never_falls
returns-in_err-made-clause-never_falls g c = never_falls _ _ _ _ (returns-in_err-made-clause-link g c)

pub returns-clause-never_falls : goal.returns-clause-never_falls
returns-clause-never_falls g c = never_falls _ _ _ _ (returns-clause-link g c)

pub returns-in_err-opened-clause-asked : goal.returns-in_err-opened-clause-asked
returns-in_err-opened-clause-asked g c = λ bytes tells.
    subst (λ (ls : List Path). AsksOnly (is_request_for c.args.path.now (reader_ranges bytes (map path_view ls))) (g.L.Link.shows c.args.link.now).asked (g.L.Link.shows c.start.new.link).asked) c.deref.ensures.value
    (opening_asked c.args.path.now bytes (map path_view c.deref.result.now) _ _ (c.start.ensures.asked bytes tells))

pub returns-in_err-made-clause-asked : goal.returns-in_err-made-clause-asked
returns-in_err-made-clause-asked g c = λ bytes tells.
    let p = c.args.plan.now in
    let told = told_then c.deref.result.now p c.in_ok-opened.opened (g.L.Link.shows c.args.link.now) (g.L.Link.shows c.start.new.link) c.args.path.now bytes c.deref.ensures.value c.in_ok-opened.ensures.path c.start.ensures.link.same (c.in_ok-opened.ensures.opened bytes tells) tells in
    file_asked c.args.path.now _ bytes (plan_leaves p) told.0.1.0 _ _ _ c.in_ok-opened.ensures.path told.0.1.1 (c.start.ensures.asked bytes tells) (c.partial_of_opened.ensures.asked bytes told.0.1.0 told told.0.1.1)

pub returns-clause-asked : goal.returns-clause-asked
returns-clause-asked g c = λ bytes tells.
    let p = c.args.plan.now in
    let told = told_then c.deref.result.now p c.in_ok-opened.opened (g.L.Link.shows c.args.link.now) (g.L.Link.shows c.start.new.link) c.args.path.now bytes c.deref.ensures.value c.in_ok-opened.ensures.path c.start.ensures.link.same (c.in_ok-opened.ensures.opened bytes tells) tells in
    file_asked c.args.path.now _ bytes (plan_leaves p) told.0.1.0 _ _ _ c.in_ok-opened.ensures.path told.0.1.1 (c.start.ensures.asked bytes tells) (c.partial_of_opened.ensures.asked bytes told.0.1.0 told told.0.1.1)

pub returns-in_err-made-clause-paths : goal.returns-in_err-made-clause-paths
returns-in_err-made-clause-paths g c = columns_there c.args.path.now _ _ _ _ c.in_ok-opened.ensures.path c.start.ensures.paths c.partial_of_opened.ensures.paths

pub returns-clause-paths : goal.returns-clause-paths
returns-clause-paths g c = columns_there c.args.path.now _ _ _ _ c.in_ok-opened.ensures.path c.start.ensures.paths c.partial_of_opened.ensures.paths

pub returns-clause-counted : goal.returns-clause-counted
returns-clause-counted g c = λ bytes R tells is.
    let s = schema_view c.args.schema.now in
    let p = c.args.plan.now in
    let o = c.in_ok-opened.opened in
    let w = c.in_ok-made.ensures.partial in
    let told = told_then c.deref.result.now p o (g.L.Link.shows c.args.link.now) (g.L.Link.shows c.start.new.link) c.args.path.now bytes c.deref.ensures.value c.in_ok-opened.ensures.path c.start.ensures.link.same (c.in_ok-opened.ensures.opened bytes tells) tells in
    taken_counted _ _ _ _ c.add.ensures w.so_many
    ∙ ap (counted c.args.steps.now)
    (columns_counted bytes s p w.columns (rows_of o) (partial_view c.in_ok-made.made.partial) R w.partial (opened_columns bytes s p (g.L.Link.shows c.start.new.link).held o c.in_ok-made.made w told) is)
