use Rattle.dr_nested.specs.SchemaView.{schema_view}
use Rattle.dr_sql.specs.Views.{query_view}
use Rattle.dr_bind.proofs.ReadingLemmas.{err_is, text_refuses, schema_refuses, plan_meant}
use Rattle.dr_bind.proofs.reading.read_query.Goals as goal

pub returns-in_err-query-clause-refused : goal.returns-in_err-query-clause-refused
returns-in_err-query-clause-refused c =
    err_is _ _ _ c.from_residual.ensures.1 (text_refuses (schema_view c.args.schema.now) c.args.text.now c.in_err-query.field-0.0 c.in_err-query.ensures)

pub returns-in_err-plan-clause-refused : goal.returns-in_err-plan-clause-refused
returns-in_err-plan-clause-refused c =
    err_is _ _ _ c.from_residual-in_err-plan.ensures.1 (schema_refuses (schema_view c.args.schema.now) c.args.text.now (query_view c.in_ok-query.query) c.in_err-plan.field-0.0 c.in_ok-query.ensures c.in_err-plan.ensures)

pub returns-clause-plan : goal.returns-clause-plan
returns-clause-plan c = plan_meant (schema_view c.args.schema.now) c.args.text.now (query_view c.in_ok-query.query) c.in_ok-plan.plan c.in_ok-query.ensures c.in_ok-plan.ensures
