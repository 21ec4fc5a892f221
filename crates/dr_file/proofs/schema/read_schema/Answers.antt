use Rattle.std.proofs.Common.{◌≡◌, ◌∙◌, sym, ap, subst, Option}
use Rattle.std.specs.Prelude.{Ok}
use Rattle.std.proofs.lemmas.Result.{err_from_is_err_and, IfOk-weaker}
use Rattle.dr_formats.specs.Compact.{read_struct}
use Rattle.dr_formats.specs.File.{Footer, meta_read, schema_or_cause}
use Rattle.dr_nested.specs.SchemaView.{schema_view}
use Rattle.dr_file.specs.Openings.{footer_in, IsOpenFault}
use Rattle.dr_file.specs.Schemas.{cause_in}
use Rattle.dr_file.proofs.OpeningLemmas.{err_by}
use Rattle.dr_file.proofs.StartLemmas.{footer_is, schema_fault_told}
use Rattle.dr_file.proofs.schema.read_schema.Goals as goal

pub returns-in_err-footer-clause-cause : goal.returns-in_err-footer-clause-cause
returns-in_err-footer-clause-cause g c = λ bytes told n.
    let p = err_from_is_err_and c.from_residual.result c.from_residual.ensures.1 in
    rw (p.1, p.2) (schema_fault_told c.in_err-footer.field-0.0 bytes (λ e. c.in_err-footer.ensures.bad bytes told (cc)) (λ e. n (cc (p.1, p.2))))

pub returns-clause-schema : goal.returns-clause-schema
returns-clause-schema g c = λ bytes told.
    let f = footer_is bytes _ _ (c.in_ok-footer.ensures.footer bytes told) in
    IfOk-weaker c.footer_schema.result (λ s. schema_or_cause (footer_in c.in_ok-footer.footer.place (meta_read (read_struct c.in_ok-footer.footer.bytes.items))) ≡ Ok (schema_view s)) _
    (λ s q. ap schema_or_cause f ∙ q)
    c.footer_schema.ensures.schema

pub returns-clause-cause : goal.returns-clause-cause
returns-clause-cause g c = λ bytes told n.
    let f = footer_is bytes _ _ (c.in_ok-footer.ensures.footer bytes told) in
    err_by c.footer_schema.result (λ x. IsOpenFault x (cause_in (schema_or_cause (footer_in c.in_ok-footer.footer.place (meta_read (read_struct c.in_ok-footer.footer.bytes.items)))))) _ c.footer_schema.ensures.fault
    (λ x q.
    let P : Option Footer → Type 0 = λ o. IsOpenFault x (cause_in (schema_or_cause o)) in
    subst P (sym f) q)
