use Rattle.std.proofs.Common.{◌≡◌, ◌∙◌, map, sym, ap, subst}
use Rattle.std.specs.Prelude.{Option}
use Rattle.std.proofs.lemmas.Result.{IfOk-weaker}
use Rattle.dr_formats.specs.Metadata.{FileMeta, view_file}
use Rattle.dr_formats.specs.Compact.{read_struct}
use Rattle.dr_formats.specs.File.{meta_of, meta_read}
use Rattle.dr_compact.specs.Views.{tree_view}
use Rattle.dr_nested.specs.PathView.{path_view}
use Rattle.dr_file.specs.Openings.{opened_field_view, footer_in, footer_cause, IsOpenedAs, IsOpenFault}
use Rattle.dr_file.proofs.OpeningLemmas.{err_by}
use Rattle.dr_file.proofs.opening.open_footer.Goals as goal

pub returns-clause-opened : goal.returns-clause-opened
returns-clause-opened c =
    let F = map path_view c.args.fields.now in
    let place = c.args.footer.now.place in
    let e : meta_read (read_struct c.args.footer.now.bytes.items) ≡ meta_of (view_file (tree_view c.in_ok-tree.tree)) =
    ap (λ xs. meta_read (read_struct xs)) (sym c.deref.ensures.value) ∙ ap meta_read c.in_ok-tree.ensures.read in
    IfOk-weaker c.open_tree.result (λ r. IsOpenedAs (footer_in place (meta_of (view_file (tree_view c.in_ok-tree.tree)))) F r.0 (map opened_field_view (r.1).items)) _
    (λ r q.
    let P : Option FileMeta → Type 0 = λ o. IsOpenedAs (footer_in place o) F r.0 (map opened_field_view (r.1).items) in
    subst P (sym e) q)
    (c.open_tree.ensures.opened place)

pub returns-clause-fault : goal.returns-clause-fault
returns-clause-fault c =
    let F = map path_view c.args.fields.now in
    let place = c.args.footer.now.place in
    let e : meta_read (read_struct c.args.footer.now.bytes.items) ≡ meta_of (view_file (tree_view c.in_ok-tree.tree)) =
    ap (λ xs. meta_read (read_struct xs)) (sym c.deref.ensures.value) ∙ ap meta_read c.in_ok-tree.ensures.read in
    err_by c.open_tree.result (λ x. IsOpenFault x (footer_cause F (footer_in place (meta_of (view_file (tree_view c.in_ok-tree.tree)))))) (λ x. IsOpenFault x (footer_cause F (footer_in place (meta_read (read_struct c.args.footer.now.bytes.items)))))
    (c.open_tree.ensures.fault place)
    (λ x q.
    let P : Option FileMeta → Type 0 = λ o. IsOpenFault x (footer_cause F (footer_in place o)) in
    subst P (sym e) q)
