use Rattle.std.proofs.Common.{◌≡◌, ◌∙◌, sym, ap, subst}
use Rattle.std.specs.Prelude.{Result, Ok}
use Rattle.std.proofs.lemmas.Result.{IfOk-weaker}
use Rattle.dr_formats.specs.Metadata.{FileMeta, MetaFault}
use Rattle.dr_formats.specs.File.{meta_of, schema_or_cause}
use Rattle.dr_meta.specs.Views.{file_view}
use Rattle.dr_nested.specs.SchemaView.{schema_view}
use Rattle.dr_file.specs.Openings.{footer_with, footer_in, IsOpenFault}
use Rattle.dr_file.specs.Schemas.{cause_in}
use Rattle.dr_file.proofs.OpeningLemmas.{err_by}
use Rattle.dr_file.proofs.schema.tree_schema.Goals as goal

pub returns-clause-schema : goal.returns-clause-schema
returns-clause-schema c = λ place.
    IfOk-weaker c.meta_schema.result (λ s. schema_or_cause (footer_with place (file_view c.in_ok-meta.meta)) ≡ Ok (schema_view s)) _
    (λ s q. ap (λ (r : Result FileMeta MetaFault). schema_or_cause (footer_in place (meta_of r))) c.in_ok-meta.ensures ∙ q)
    (c.meta_schema.ensures.schema place)

pub returns-clause-fault : goal.returns-clause-fault
returns-clause-fault c = λ place.
    err_by c.meta_schema.result (λ x. IsOpenFault x (cause_in (schema_or_cause (footer_with place (file_view c.in_ok-meta.meta))))) _ (c.meta_schema.ensures.fault place)
    (λ x q.
    let P : Result FileMeta MetaFault → Type 0 = λ r. IsOpenFault x (cause_in (schema_or_cause (footer_in place (meta_of r)))) in
    subst P (sym c.in_ok-meta.ensures) q)
