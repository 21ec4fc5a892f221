use Rattle.std.proofs.Common.{ℕ, List, Option, sym, subst, map}
use Rattle.std.proofs.lemmas.List.{length-map}
use Rattle.dr_levels.specs.Views.{columns_view}
use Rattle.dr_nested.specs.PathView.{path_view}
use Rattle.dr_outside.specs.Link.{Files}
use Rattle.dr_outside.specs.Telling.{TellsFile, Serves}
use Rattle.dr_file.specs.Leaving.{ServesOpened}
use Rattle.dr_file.proofs.LeavingLemmas.{same_fault_leaves, value_leaves, then_leaves, serves_opened}
use Rattle.dr_scan.specs.FileRecords.{IsFaultOf}
use Rattle.dr_scan.proofs.AskedLemmas.{opening_asked, file_asked, columns_there}
use Rattle.dr_scan.proofs.ColumnsLemmas.{err_is, never_falls}
use Rattle.dr_scan.proofs.RecordsLemmas.{columns_fault, columns_of_file}
use Rattle.dr_scan.proofs.file_columns.read_file_columns.Goals as goal

pub returns-in_err-columns-clause-cause : goal.returns-in_err-columns-clause-cause
returns-in_err-columns-clause-cause g c = λ bytes s t are.
    let F = map path_view c.args.fields.now in
    let o = c.in_ok-opened.ensures.opened bytes t in
    let now = subst (λ (h : Option Files). TellsFile h c.args.path.now bytes) (sym c.start.ensures.link.same) t in
    let at = subst (λ (p : List ℕ). TellsFile (g.L.Link.shows c.start.new.link).held p bytes) (sym c.in_ok-opened.ensures.path) now in
    err_is (IsFaultOf bytes s F) _ c.in_err-columns.field-0.0 c.from_residual-in_err-columns.ensures.1
    (columns_fault bytes s F c.in_ok-opened.opened c.in_err-columns.field-0.0 o are
    (c.in_err-columns.ensures.cause bytes F o (length-map c.args.fields.now path_view) at))

pub returns-in_err-opened-clause-link : goal.returns-in_err-opened-clause-link
returns-in_err-opened-clause-link g c =
    same_fault_leaves _ c.in_err-opened.field-0.0 _ _ _ c.from_residual.ensures.1 c.in_err-opened.ensures.link

pub returns-in_err-columns-clause-link : goal.returns-in_err-columns-clause-link
returns-in_err-columns-clause-link g c =
    let before = g.L.Link.shows c.args.link.now in
    let between = g.L.Link.shows c.start.new.link in
    let start = c.start.ensures.link in
    let file = c.in_ok-opened.opened in
    let opened = c.in_ok-opened.ensures in
    then_leaves file _ (Serves before c.args.path.now) (ServesOpened between file) before between _ opened.link
    (λ bytes s. serves_opened file before between c.args.path.now (map path_view c.args.fields.now) bytes opened.path start.same start.stays_steady (opened.opened bytes s.1) s)
    (same_fault_leaves _ c.in_err-columns.field-0.0 _ _ _ c.from_residual-in_err-columns.ensures.1 c.in_err-columns.ensures.link)

pub returns-clause-link : goal.returns-clause-link
returns-clause-link g c =
    let before = g.L.Link.shows c.args.link.now in
    let between = g.L.Link.shows c.start.new.link in
    let start = c.start.ensures.link in
    let file = c.in_ok-opened.opened in
    let opened = c.in_ok-opened.ensures in
    then_leaves file _ (Serves before c.args.path.now) (ServesOpened between file) before between _ opened.link
    (λ bytes s. serves_opened file before between c.args.path.now (map path_view c.args.fields.now) bytes opened.path start.same start.stays_steady (opened.opened bytes s.1) s)
    (value_leaves c.in_ok-columns.columns _ _ _ _ c.in_ok-columns.ensures.link)

pub returns-clause-columns : goal.returns-clause-columns
returns-clause-columns g c = λ bytes s t.
    let F = map path_view c.args.fields.now in
    let o = c.in_ok-opened.ensures.opened bytes t in
    let now = subst (λ (h : Option Files). TellsFile h c.args.path.now bytes) (sym c.start.ensures.link.same) t in
    let at = subst (λ (p : List ℕ). TellsFile (g.L.Link.shows c.start.new.link).held p bytes) (sym c.in_ok-opened.ensures.path) now in
    columns_of_file bytes s F c.in_ok-opened.opened (columns_view c.in_ok-columns.columns.items) c.rows.result o
    (c.in_ok-columns.ensures.columns bytes F o (length-map c.args.fields.now path_view) at) c.rows.ensures.rows

pub returns-in_err-opened-clause-asked : goal.returns-in_err-opened-clause-asked
returns-in_err-opened-clause-asked g c = λ bytes t.
    opening_asked c.args.path.now bytes (map path_view c.args.fields.now) _ _ (c.start.ensures.asked bytes t)

pub returns-in_err-columns-clause-asked : goal.returns-in_err-columns-clause-asked
returns-in_err-columns-clause-asked g c = λ bytes t.
    let F = map path_view c.args.fields.now in
    let o = c.in_ok-opened.ensures.opened bytes t in
    file_asked c.args.path.now _ bytes F o.1.0 _ _ _ c.in_ok-opened.ensures.path o.1.1 (c.start.ensures.asked bytes t)
    (c.read_columns.ensures.asked bytes F o.1.0 o (length-map c.args.fields.now path_view) o.1.1)

pub returns-clause-asked : goal.returns-clause-asked
returns-clause-asked g c = λ bytes t.
    let F = map path_view c.args.fields.now in
    let o = c.in_ok-opened.ensures.opened bytes t in
    file_asked c.args.path.now _ bytes F o.1.0 _ _ _ c.in_ok-opened.ensures.path o.1.1 (c.start.ensures.asked bytes t)
    (c.read_columns.ensures.asked bytes F o.1.0 o (length-map c.args.fields.now path_view) o.1.1)

pub returns-in_err-columns-clause-paths : goal.returns-in_err-columns-clause-paths
returns-in_err-columns-clause-paths g c = columns_there c.args.path.now _ _ _ _ c.in_ok-opened.ensures.path c.start.ensures.paths c.read_columns.ensures.paths

pub returns-in_err-opened-clause-never_falls : goal.returns-in_err-opened-clause-never_falls
returns-in_err-opened-clause-never_falls g c = never_falls _ _ _ _ (returns-in_err-opened-clause-link g c)

pub returns-in_err-columns-clause-never_falls : goal.returns-in_err-columns-clause-never_falls
returns-in_err-columns-clause-never_falls g c = never_falls _ _ _ _ (returns-in_err-columns-clause-link g c)

pub returns-clause-never_falls : goal.returns-clause-never_falls
returns-clause-never_falls g c = never_falls _ _ _ _ (returns-clause-link g c)
