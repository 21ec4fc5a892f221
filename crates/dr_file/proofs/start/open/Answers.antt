use Rattle.std.proofs.Common.{map, sym, subst}
use Rattle.std.specs.Prelude.{Option}
use Rattle.std.proofs.lemmas.Result.{err_from_is_err_and}
use Rattle.dr_formats.specs.File.{Footer}
use Rattle.dr_nested.specs.PathView.{path_view}
use Rattle.dr_file.specs.Openings.{opened_field_view, footer_cause, IsOpenedAs, IsOpenFault}
use Rattle.dr_file.proofs.StartLemmas.{footer_is, footer_fault_told}
use Rattle.dr_file.proofs.start.open.Goals as goal

pub returns-in_err-footer-clause-cause : goal.returns-in_err-footer-clause-cause
returns-in_err-footer-clause-cause g c = λ bytes told n.
    let p = err_from_is_err_and c.from_residual.result c.from_residual.ensures.1 in
    rw (p.1, p.2) (footer_fault_told c.in_err-footer.field-0.0 bytes (map path_view c.args.fields.now) (λ e. c.in_err-footer.ensures.bad bytes told (cc)) (λ e. n (cc (p.1, p.2))))

pub returns-in_err-rows-clause-cause : goal.returns-in_err-rows-clause-cause
returns-in_err-rows-clause-cause g c = λ bytes told n.
    let F = map path_view c.args.fields.now in
    let p = err_from_is_err_and c.from_residual-in_err-rows.result c.from_residual-in_err-rows.ensures.1 in
    let f = footer_is bytes _ _ (c.in_ok-footer.ensures.footer bytes told) in
    let P : Option Footer → Type 0 = λ o. IsOpenFault c.in_err-rows.field-0.0 (footer_cause F o) in
    rw (p.1, p.2) (subst P (sym f) c.in_err-rows.ensures.fault)

pub returns-clause-opened : goal.returns-clause-opened
returns-clause-opened g c = λ bytes told.
    let F = map path_view c.args.fields.now in
    let t = c.in_ok-footer.ensures.footer bytes told in
    let f = footer_is bytes _ _ t in
    let P : Option Footer → Type 0 = λ o. IsOpenedAs o F c.in_ok-rows.rows (map opened_field_view c.in_ok-rows.leaves.items) in
    (t.1, subst P (sym f) c.in_ok-rows.ensures.opened)
