use Rattle.std.proofs.Common.{◌≡◌, ◌∙◌, sym, ap, subst, Option}
use Rattle.std.specs.Prelude.{Ok}
use Rattle.std.proofs.lemmas.Result.{IfOk-weaker}
use Rattle.dr_compact.specs.Views.{tree_view}
use Rattle.dr_formats.specs.Compact.{read_struct}
use Rattle.dr_formats.specs.Metadata.{FileMeta, view_file}
use Rattle.dr_formats.specs.File.{meta_of, meta_read, schema_or_cause}
use Rattle.dr_nested.specs.SchemaView.{schema_view}
use Rattle.dr_file.specs.Openings.{footer_in, IsOpenFault}
use Rattle.dr_file.specs.Schemas.{cause_in}
use Rattle.dr_file.proofs.OpeningLemmas.{err_by}
use Rattle.dr_file.proofs.schema.footer_schema.Goals as goal

pub returns-clause-schema : goal.returns-clause-schema
returns-clause-schema c =
    let place = c.args.footer.now.place in
    let e : meta_read (read_struct c.args.footer.now.bytes.items) ≡ meta_of (view_file (tree_view c.in_ok-tree.tree)) =
    ap (λ xs. meta_read (read_struct xs)) (sym c.deref.ensures.value) ∙ ap meta_read c.in_ok-tree.ensures.read in
    IfOk-weaker c.tree_schema.result (λ s. schema_or_cause (footer_in place (meta_of (view_file (tree_view c.in_ok-tree.tree)))) ≡ Ok (schema_view s)) _
    (λ s q. ap (λ o. schema_or_cause (footer_in place o)) e ∙ q)
    (c.tree_schema.ensures.schema place)

pub returns-clause-fault : goal.returns-clause-fault
returns-clause-fault c =
    let place = c.args.footer.now.place in
    let e : meta_read (read_struct c.args.footer.now.bytes.items) ≡ meta_of (view_file (tree_view c.in_ok-tree.tree)) =
    ap (λ xs. meta_read (read_struct xs)) (sym c.deref.ensures.value) ∙ ap meta_read c.in_ok-tree.ensures.read in
    err_by c.tree_schema.result (λ x. IsOpenFault x (cause_in (schema_or_cause (footer_in place (meta_of (view_file (tree_view c.in_ok-tree.tree)))))))
    (λ x. IsOpenFault x (cause_in (schema_or_cause (footer_in place (meta_read (read_struct c.args.footer.now.bytes.items))))))
    (c.tree_schema.ensures.fault place)
    (λ x q.
    let P : Option FileMeta → Type 0 = λ o. IsOpenFault x (cause_in (schema_or_cause (footer_in place o))) in
    subst P (sym e) q)
