use Rattle.std.proofs.Common.{◌≡◌, List, Ok, ap, sym, ◌∙◌, subst, true≢false}
use Rattle.serde_json.specs.Errors.{IsMemory}
use Rattle.serde_json.specs.Find.{as_object}
use Rattle.serde_json.specs.View.{view}
use Rattle.dr_meaning.specs.JsonRecord as meant
use Rattle.dr_nested.specs.declared.shape.Field.{Field}
use Rattle.dr_nested.specs.Views.{fields_view}
use Rattle.dr_json.specs.Held.{object_held}
use Rattle.dr_json.proofs.LineLemmas.{line_read, line_refused}
use Rattle.dr_json.proofs.line.read_record.Goals as goal

pub returns-in-Ok-check_record-clause-record : goal.returns-in-Ok-check_record-clause-record
returns-in-Ok-check_record-clause-record c =
    let d = view c.in-Ok.value in
    let P : List Field → Type 0 = λ fs. meant.record_of_value (fields_view fs) d ≡ Ok (object_held (fields_view fs) (as_object d)) in
    line_read (fields_view c.args.schema.now.fields.items) c.args.line.now d c.in-Ok.ensures.ok.0 c.in-Ok.ensures.ok.1 ∙ subst P c.deref.ensures.value c.in-Ok-check_record.ensures

pub returns-in-Ok-clause-record : goal.returns-in-Ok-clause-record
returns-in-Ok-clause-record c =
    let d = view c.in-Ok.value in
    line_read (fields_view c.args.schema.now.fields.items) c.args.line.now d c.in-Ok.ensures.ok.0 c.in-Ok.ensures.ok.1
    ∙ sym (ap (λ (fs : List Field). meant.record_of_value (fields_view fs) d) c.deref.ensures.value) ∙ c.in-Err-check_record.ensures

pub returns-clause-record : goal.returns-clause-record
returns-clause-record c =
    let refused = λ (m : IsMemory c.in-Err.error). true≢false (sym (c.is_memory.ensures.1 m) ∙ c.if-is_memory.false) in
    line_refused (fields_view c.args.schema.now.fields.items) c.args.line.now (c.in-Err.ensures.err refused)
