use Rattle.std.proofs.Common.{Result, ap, sym, ◌∙◌, subst, true≢false}
use Rattle.serde_json.specs.Errors.{IsMemory}
use Rattle.serde_json.specs.View.{view}
use Rattle.dr_meaning.specs.Record.{Node}
use Rattle.dr_meaning.specs.JsonRecord as meant
use Rattle.dr_nested.specs.Views.{fields_view, node_view}
use Rattle.dr_nested.specs.Faults.{Gives}
use Rattle.dr_json.specs.Faults.{record_fault_view}
use Rattle.dr_json.proofs.LineLemmas.{line_read, line_refused}
use Rattle.dr_json.proofs.line.record_of.Goals as goal

pub returns-in-Ok : goal.returns-in-Ok
returns-in-Ok c =
    let d = view c.in-Ok.value in
    let read_as = line_read (fields_view c.args.schema.now.fields.items) c.args.line.now d c.in-Ok.ensures.ok.0 c.in-Ok.ensures.ok.1 in
    let P : Result Node meant.RecordFault → Type 0 = λ m. Gives node_view record_fault_view m c.record_of_value.result in
    subst P (ap (λ fs. meant.record_of_value (fields_view fs) d) c.deref.ensures.value ∙ sym read_as) c.record_of_value.ensures

pub returns-in-Err-2 : goal.returns-in-Err-2
returns-in-Err-2 c =
    let refused = λ (m : IsMemory c.in-Err.error). true≢false (sym (c.is_memory.ensures.1 m) ∙ c.if-is_memory.false) in
    line_refused (fields_view c.args.schema.now.fields.items) c.args.line.now (c.in-Err.ensures.err refused)
