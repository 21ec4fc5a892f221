use Rattle.std.proofs.Common.{string_bytes}
use Rattle.dr_nested.specs.SchemaView.{schema_view}
use Rattle.dr_commands.specs.Ask.{ask_meaning, ask_view}
use Rattle.dr_top.specs.World.{outcome_on}
use Rattle.dr_top.specs.Stops.{schema_stop, query_stop}
use Rattle.dr_top.proofs.OutcomeLemmas.{err_is}
use Rattle.dr_top.proofs.CommandLemmas.{schema_early, early_reading}
use Rattle.dr_top.proofs.AskEnds.{ask_refuses_schema, ask_query_early, ask_opens, ask_load_stops, ask_ends}
use Rattle.dr_top.proofs.commands.ask.answer.Goals as goal

pub returns-in_err-schema-clause-stops : goal.returns-in_err-schema-clause-stops
returns-in_err-schema-clause-stops g c =
    err_is _ _ _ c.from_residual.ensures.1
    (early_reading (outcome_on (ask_meaning (ask_view c.args.words.now)) c.args.file.now) (g.S.Source.shows c.args.source.now) (schema_stop c.in_err-schema.field-0.0)
    (schema_early (ask_meaning (ask_view c.args.words.now)) c.args.file.now c.in_err-schema.field-0.0 (ask_refuses_schema (ask_view c.args.words.now)) c.in_err-schema.ensures))

pub returns-in_err-plans-clause-stops : goal.returns-in_err-plans-clause-stops
returns-in_err-plans-clause-stops g c =
    err_is _ _ _ c.from_residual-in_err-plans.ensures.1
    (early_reading (outcome_on (ask_meaning (ask_view c.args.words.now)) c.args.file.now) (g.S.Source.shows c.args.source.now) (query_stop c.in_err-plans.field-0.0)
    (ask_query_early (ask_view c.args.words.now) c.args.file.now c.as_str.result.now (schema_view c.in_ok-schema.schema) c.in_err-plans.field-0.0 c.as_str.ensures.value c.in_ok-schema.ensures c.in_err-plans.ensures.refused))

pub returns-in_err-text-clause-stops : goal.returns-in_err-text-clause-stops
returns-in_err-text-clause-stops g c =
    let read = c.in_ok-plans.ensures.plans in
    err_is _ _ _ c.from_residual-in_err-text.ensures.1
    (ask_load_stops (ask_view c.args.words.now) c.args.file.now c.as_str.result.now (schema_view c.in_ok-schema.schema) read.0 c.as_str.ensures.value c.in_ok-schema.ensures read.1
    (g.S.Source.shows c.args.source.now) (g.S.Source.shows c.ask_input.new.source) c.in_err-text.field-0.0
    (λ e. c.in_err-text.ensures.source_cause (cc)) (λ n. c.in_err-text.ensures.source_calm (λ e. n (cc))) (λ e. c.in_err-text.ensures.never_keeper (cc)) (λ e. c.in_err-text.ensures.accepts (cc)) c.in_err-text.ensures.refused)

pub returns-clause-opened : goal.returns-clause-opened
returns-clause-opened g c =
    let read = c.in_ok-plans.ensures.plans in
    ask_opens (ask_view c.args.words.now) c.args.file.now c.as_str.result.now (schema_view c.in_ok-schema.schema) read.0 c.as_str.ensures.value c.in_ok-schema.ensures read.1

pub returns-clause-text : goal.returns-clause-text
returns-clause-text g c =
    let read = c.in_ok-plans.ensures.plans in
    ask_ends (ask_view c.args.words.now) c.args.file.now c.as_str.result.now (schema_view c.in_ok-schema.schema) read.0 c.as_str.ensures.value c.in_ok-schema.ensures read.1
    (g.S.Source.shows c.args.source.now) (string_bytes c.in_ok-text.text) (c.in_ok-text.ensures.text read.0 read.2)
