use Rattle.dr_nested.specs.SchemaView.{schema_view}
use Rattle.dr_sql.specs.Views.{nested_view}
use Rattle.dr_sub.proofs.TextLemmas.{err_is, text_refuses, schema_refuses, plans_meant}
use Rattle.dr_sub.proofs.text.read_nested.Goals as goal

pub returns-in_err-query-clause-refused : goal.returns-in_err-query-clause-refused
returns-in_err-query-clause-refused c =
    err_is _ _ _ c.from_residual.ensures.1 (text_refuses (schema_view c.args.schema.now) c.args.text.now c.in_err-query.field-0.0 c.in_err-query.ensures.tree)

pub returns-in_err-plans-clause-refused : goal.returns-in_err-plans-clause-refused
returns-in_err-plans-clause-refused c =
    err_is _ _ _ c.from_residual-in_err-plans.ensures.1 (schema_refuses (schema_view c.args.schema.now) c.args.text.now (nested_view c.in_ok-query.query) c.in_err-plans.field-0.0 c.in_ok-query.ensures.tree c.in_err-plans.ensures)

pub returns-clause-plans : goal.returns-clause-plans
returns-clause-plans c = plans_meant (schema_view c.args.schema.now) c.args.text.now (nested_view c.in_ok-query.query) c.in_ok-plans.plans c.in_ok-query.ensures.tree c.in_ok-query.ensures.items c.in_ok-plans.ensures
