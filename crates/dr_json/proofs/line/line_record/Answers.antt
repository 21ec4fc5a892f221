use Rattle.std.proofs.Common.{◌≡◌, List, true, ap, subst}
use Rattle.json.specs.Json.{Members}
use Rattle.json.specs.Value.{members_view}
use Rattle.dr_meaning.specs.Schema.{Fields}
use Rattle.dr_nested.specs.declared.shape.Field.{Field}
use Rattle.dr_nested.specs.Views.{fields_view}
use Rattle.dr_json.specs.Plain.{PlainRecord}
use Rattle.dr_json.proofs.LineLemmas.{line_plain, where_some}
use Rattle.dr_json.proofs.RawLemmas.{Pair}
use Rattle.dr_json.proofs.line.line_record.Goals as goal

pub returns-then-is_plain_record-clause-record : goal.returns-then-is_plain_record-clause-record
returns-then-is_plain_record-clause-record c =
    let fs = fields_view c.args.schema.now.fields.items in
    let ms = members_view c.in-Some.members.items in
    let fields : fields_view c.deref.result.now ≡ fs = ap (λ (x : List Field). fields_view x) c.deref.ensures.value in
    let members : members_view c.deref-in-Some.result.now ≡ ms = ap (λ (x : List Pair). members_view x) c.deref-in-Some.ensures.value in
    let plain = subst (PlainRecord (fields_view c.deref.result.now) (members_view c.deref-in-Some.result.now)) c.if-is_plain_record.true c.is_plain_record.ensures in
    line_plain fs c.args.line.now ms (where_some _ c.in_ok-members.field-0 c.in-Some.members c.in-Some.is c.in_ok-members.ensures)
    (subst (λ (x : Fields). PlainRecord x ms true) fields (subst (λ (x : Members). PlainRecord (fields_view c.deref.result.now) x true) members plain))
