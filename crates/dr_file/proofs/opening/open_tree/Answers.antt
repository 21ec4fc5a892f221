use Rattle.std.proofs.Common.{◌∙◌, map, sym, ap, subst}
use Rattle.std.specs.Prelude.{Result}
use Rattle.std.proofs.lemmas.Result.{err_from_is_err_and}
use Rattle.dr_formats.specs.Metadata.{FileMeta, MetaFault}
use Rattle.dr_formats.specs.File.{meta_of}
use Rattle.dr_nested.specs.PathView.{path_view}
use Rattle.dr_file.specs.Openings.{footer_in, footer_cause, IsOpenFault}
use Rattle.dr_file.proofs.opening.open_tree.Goals as goal

pub returns-in_err-leaves-clause-fault : goal.returns-in_err-leaves-clause-fault
returns-in_err-leaves-clause-fault c = λ place.
    let F = map path_view c.args.fields.now in
    let p = err_from_is_err_and c.from_residual-in_err-leaves.result c.from_residual-in_err-leaves.ensures.1 in
    let P : Result FileMeta MetaFault → Type 0 = λ r. IsOpenFault c.in_err-leaves.field-0.0 (footer_cause F (footer_in place (meta_of r))) in
    rw (p.1, p.2) (subst P (sym c.in_ok-meta.ensures) (c.in_err-leaves.ensures.fault place))

pub returns-clause-opened : goal.returns-clause-opened
returns-clause-opened c = λ place.
    let q = c.in_ok-leaves.ensures.opened place in
    (q.0, ap (λ (r : Result FileMeta MetaFault). footer_in place (meta_of r)) c.in_ok-meta.ensures ∙ q.1, q.2, q.3, q.4, q.5 ∙ sym c.get.ensures, q.6)
