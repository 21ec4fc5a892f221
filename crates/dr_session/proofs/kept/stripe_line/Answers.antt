use Rattle.dr_nested.specs.SchemaView.{schema_view}
use Rattle.dr_json.specs.Parts.{line_node}
use Rattle.dr_input.proofs.ReadLemmas.{line_is_record}
use Rattle.dr_session.proofs.kept.stripe_line.Goals as goal

pub stripe-requires : goal.stripe-requires
stripe-requires c =
    let fs = (schema_view c.args.schema.now).fields in
    record {
      fits = c.requires.fits (line_node c.in_ok-record.record) (line_is_record fs c.args.line.now c.in_ok-record.record c.in_ok-record.ensures.fields c.in_ok-record.ensures.record);
    }

pub returns-clause-record : goal.returns-clause-record
returns-clause-record c =
    let fs = (schema_view c.args.schema.now).fields in
    (line_node c.in_ok-record.record, c.in_ok-record.ensures.record, line_is_record fs c.args.line.now c.in_ok-record.record c.in_ok-record.ensures.fields c.in_ok-record.ensures.record, c.in_ok-stripe.ensures.columns)
