use Rattle.std.proofs.Common.{string_bytes}
use Rattle.dr_nested.specs.SchemaView.{schema_view}
use Rattle.dr_commands.specs.Explain.{explain_meaning, explain_view}
use Rattle.dr_top.proofs.OutcomeLemmas.{err_is}
use Rattle.dr_top.proofs.CommandLemmas.{schema_early}
use Rattle.dr_top.proofs.ExplainEnds.{explain_refuses_schema, explain_query_early, explain_ends}
use Rattle.dr_top.proofs.commands.explain.answer.Goals as goal

pub returns-in_err-schema-clause-stops : goal.returns-in_err-schema-clause-stops
returns-in_err-schema-clause-stops c =
    err_is _ _ _ c.from_residual.ensures.1
    (schema_early (explain_meaning (explain_view c.args.words.now)) c.args.file.now c.in_err-schema.field-0.0 (explain_refuses_schema (explain_view c.args.words.now)) c.in_err-schema.ensures)

pub returns-in_err-plans-clause-stops : goal.returns-in_err-plans-clause-stops
returns-in_err-plans-clause-stops c =
    err_is _ _ _ c.from_residual-in_err-plans.ensures.1
    (explain_query_early (explain_view c.args.words.now) c.args.file.now c.as_str.result.now (schema_view c.in_ok-schema.schema) c.in_err-plans.field-0.0 c.as_str.ensures.value c.in_ok-schema.ensures c.in_err-plans.ensures.refused)

pub returns-clause-text : goal.returns-clause-text
returns-clause-text c =
    let read = c.in_ok-plans.ensures.plans in
    explain_ends (explain_view c.args.words.now) c.args.file.now c.as_str.result.now (string_bytes c.in_ok-text.text) (schema_view c.in_ok-schema.schema) read.0
    c.as_str.ensures.value c.in_ok-schema.ensures read.1 (c.in_ok-text.ensures.text read.0 read.2)
