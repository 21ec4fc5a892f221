use Rattle.std.proofs.Common.{string_bytes}
use Rattle.dr_nested.specs.SchemaView.{schema_view}
use Rattle.dr_nested.specs.PathView.{path_view}
use Rattle.dr_levels.specs.Views.{column_view}
use Rattle.dr_striper.proofs.FoundLemmas.{found_is_of}
use Rattle.dr_commands.specs.Stripe.{stripe_meaning, stripe_view}
use Rattle.dr_top.specs.World.{outcome_on}
use Rattle.dr_top.specs.Stops.{schema_stop, field_stop}
use Rattle.dr_top.proofs.OutcomeLemmas.{err_is}
use Rattle.dr_top.proofs.CommandLemmas.{schema_early, early_reading}
use Rattle.dr_top.proofs.StripeEnds.{stripe_refuses_schema, stripe_field_early, stripe_opens, stripe_input_stops, stripe_ends}
use Rattle.dr_top.proofs.commands.stripe.answer.Goals as goal

pub returns-in_err-schema-clause-stops : goal.returns-in_err-schema-clause-stops
returns-in_err-schema-clause-stops g c =
    err_is _ _ _ c.from_residual.ensures.1
    (early_reading (outcome_on (stripe_meaning (stripe_view c.args.stripe.now)) c.args.file.now) (g.S.Source.shows c.args.source.now) (schema_stop c.in_err-schema.field-0.0)
    (schema_early (stripe_meaning (stripe_view c.args.stripe.now)) c.args.file.now c.in_err-schema.field-0.0 (stripe_refuses_schema (stripe_view c.args.stripe.now)) c.in_err-schema.ensures))

pub returns-in_err-field-clause-stops : goal.returns-in_err-field-clause-stops
returns-in_err-field-clause-stops g c =
    err_is _ _ _ c.from_residual-in_err-field.ensures.1
    (early_reading (outcome_on (stripe_meaning (stripe_view c.args.stripe.now)) c.args.file.now) (g.S.Source.shows c.args.source.now) (field_stop c.in_err-field.field-0.0)
    (stripe_field_early (stripe_view c.args.stripe.now) c.args.file.now c.as_str.result.now (schema_view c.in_ok-schema.schema) c.in_err-field.field-0.0 c.as_str.ensures.value c.in_ok-schema.ensures c.in_err-field.ensures.refused))

pub stripe_records-requires : goal.stripe_records-requires
stripe_records-requires g c = found_is_of c.as_str.result.now (schema_view c.in_ok-schema.schema).fields (path_view c.in_ok-field.field) c.in_ok-field.ensures.leaf

pub returns-in_err-column-clause-stops : goal.returns-in_err-column-clause-stops
returns-in_err-column-clause-stops g c =
    err_is _ _ _ c.from_residual-in_err-column.ensures.1
    (stripe_input_stops (stripe_view c.args.stripe.now) c.args.file.now c.as_str.result.now (schema_view c.in_ok-schema.schema) (path_view c.in_ok-field.field) c.as_str.ensures.value c.in_ok-schema.ensures c.in_ok-field.ensures.leaf
    (g.S.Source.shows c.args.source.now) (g.S.Source.shows c.stripe_records.new.source) c.in_err-column.field-0.0 c.in_err-column.ensures.stops)

pub returns-clause-opened : goal.returns-clause-opened
returns-clause-opened g c =
    stripe_opens (stripe_view c.args.stripe.now) c.args.file.now c.as_str.result.now (schema_view c.in_ok-schema.schema) (path_view c.in_ok-field.field) c.as_str.ensures.value c.in_ok-schema.ensures c.in_ok-field.ensures.leaf

pub returns-clause-text : goal.returns-clause-text
returns-clause-text g c =
    stripe_ends (stripe_view c.args.stripe.now) c.args.file.now c.as_str.result.now (schema_view c.in_ok-schema.schema) (path_view c.in_ok-field.field) c.as_str.ensures.value c.in_ok-schema.ensures c.in_ok-field.ensures.leaf
    (g.S.Source.shows c.args.source.now) (string_bytes c.in_ok-text.text) (column_view c.in_ok-column.column) c.in_ok-column.ensures.columns c.in_ok-text.ensures
