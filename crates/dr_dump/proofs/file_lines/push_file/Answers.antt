use Rattle.std.proofs.Common.{ℕ, List, Option, sym, subst, map, string_bytes, arith}
use Rattle.std.specs.Prelude.{Err}
use Rattle.dr_nested.specs.Views.{fields_view}
use Rattle.dr_nested.specs.PathView.{path_view}
use Rattle.dr_outside.specs.Link.{Files}
use Rattle.dr_outside.specs.Telling.{TellsFile, Serves}
use Rattle.dr_file.specs.Leaving.{LeavesLinkCounted, ServesOpened}
use Rattle.dr_file.specs.declared.file_fault.FileFault.{FileFault}
use Rattle.dr_file.proofs.LeavingLemmas.{then_leaves, serves_opened}
use Rattle.dr_scan.proofs.AskedLemmas.{opening_asked, file_asked, columns_there}
use Rattle.dr_dump.proofs.TextLemmas.{may_cut, is_some_cause}
use Rattle.dr_dump.proofs.file_lines.push_file.Goals as goal

pub returns-in-Err-clause-asked : goal.returns-in-Err-clause-asked
returns-in-Err-clause-asked g c = λ bytes t. opening_asked c.args.path.now bytes (map path_view c.args.fields.now) _ _ (c.start.ensures.asked bytes t)

pub returns-in-Ok-push_opened-clause-asked : goal.returns-in-Ok-push_opened-clause-asked
returns-in-Ok-push_opened-clause-asked g c = λ bytes t.
    let F = map path_view c.args.fields.now in
    let o = c.in-Ok.ensures.opened bytes t in
    let now = subst (λ (h : Option Files). TellsFile h c.args.path.now bytes) (sym c.start.ensures.link.same) t in
    let at = subst (λ (p : List ℕ). TellsFile (g.L.Link.shows c.start.new.link).held p bytes) (sym c.in-Ok.ensures.path) now in
    file_asked c.args.path.now _ bytes F o.1.0 _ _ _ c.in-Ok.ensures.path o.1.1 (c.start.ensures.asked bytes t) (c.push_opened.ensures.reads.asked bytes o.1.0 (o, at) o.1.1)

pub returns-in-Ok-push_opened-clause-paths : goal.returns-in-Ok-push_opened-clause-paths
returns-in-Ok-push_opened-clause-paths g c = columns_there c.args.path.now _ _ _ _ c.in-Ok.ensures.path c.start.ensures.paths c.push_opened.ensures.reads.paths

pub returns-in-Err-NoMemory-clause-asked : goal.returns-in-Err-NoMemory-clause-asked
returns-in-Err-NoMemory-clause-asked g c = λ bytes t.
    let F = map path_view c.args.fields.now in
    let o = c.in-Ok.ensures.opened bytes t in
    let now = subst (λ (h : Option Files). TellsFile h c.args.path.now bytes) (sym c.start.ensures.link.same) t in
    let at = subst (λ (p : List ℕ). TellsFile (g.L.Link.shows c.start.new.link).held p bytes) (sym c.in-Ok.ensures.path) now in
    file_asked c.args.path.now _ bytes F o.1.0 _ _ _ c.in-Ok.ensures.path o.1.1 (c.start.ensures.asked bytes t) (c.push_opened.ensures.reads.asked bytes o.1.0 (o, at) o.1.1)

pub returns-in-Err-NoMemory-clause-paths : goal.returns-in-Err-NoMemory-clause-paths
returns-in-Err-NoMemory-clause-paths g c = columns_there c.args.path.now _ _ _ _ c.in-Ok.ensures.path c.start.ensures.paths c.push_opened.ensures.reads.paths

pub truncate-requires : goal.truncate-requires
truncate-requires g c = λ w.
    may_cut (fields_view c.args.schema.now.fields.items) (string_bytes c.args.text.now) (string_bytes c.push_opened.new.text) _ (omega (arith, c.args.text.now.bytes.ok.0))
    (c.in-Err-Why.ensures.some (is_some_cause c.in-Err-Why.field-0 c.in-Err-Why.cause c.in-Err-Why.field-0-is))

pub returns-clause-asked : goal.returns-clause-asked
returns-clause-asked g c = λ bytes t.
    let F = map path_view c.args.fields.now in
    let o = c.in-Ok.ensures.opened bytes t in
    let now = subst (λ (h : Option Files). TellsFile h c.args.path.now bytes) (sym c.start.ensures.link.same) t in
    let at = subst (λ (p : List ℕ). TellsFile (g.L.Link.shows c.start.new.link).held p bytes) (sym c.in-Ok.ensures.path) now in
    file_asked c.args.path.now _ bytes F o.1.0 _ _ _ c.in-Ok.ensures.path o.1.1 (c.start.ensures.asked bytes t) (c.push_opened.ensures.reads.asked bytes o.1.0 (o, at) o.1.1)

pub returns-clause-paths : goal.returns-clause-paths
returns-clause-paths g c = columns_there c.args.path.now _ _ _ _ c.in-Ok.ensures.path c.start.ensures.paths c.push_opened.ensures.reads.paths

pub returns-clause-link : goal.returns-clause-link
returns-clause-link g c =
    let before = g.L.Link.shows c.args.link.now in
    let between = g.L.Link.shows c.start.new.link in
    let after = g.L.Link.shows c.push_opened.new.link in
    let path = c.args.path.now in
    let start = c.start.ensures.link in
    let file = c.in-Ok.opened in
    let opened = c.in-Ok.ensures in
    subst (λ (e : FileFault). LeavesLinkCounted {T = Unit {0}} (Err e) (Serves before path) before after) c.in-Err-Why.field-0-is
    (then_leaves file _ (Serves before path) (ServesOpened between file) before between after opened.link
    (λ bytes s. serves_opened file before between path (map path_view c.args.fields.now) bytes opened.path start.same start.stays_steady (opened.opened bytes s.1) s)
    c.in-Err-Why.ensures.reads.link)
