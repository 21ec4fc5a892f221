use Rattle.std.proofs.Common.{ap, sym, ◌∙◌, map, string_bytes, Ok, List}
use Rattle.dr_nested.specs.declared.path.Path.{Path}
use Rattle.dr_nested.specs.SchemaView.{schema_view}
use Rattle.dr_nested.specs.PathView.{path_view}
use Rattle.dr_commands.specs.Fsm.{fsm_meaning, fsm_view}
use Rattle.dr_top.proofs.OutcomeLemmas.{err_is}
use Rattle.dr_top.proofs.CommandLemmas.{schema_early}
use Rattle.dr_top.proofs.FsmEnds.{fsm_refuses_schema, fsm_field_early, fsm_ends}
use Rattle.dr_top.proofs.commands.fsm.answer.Goals as goal

pub returns-in_err-schema-clause-stops : goal.returns-in_err-schema-clause-stops
returns-in_err-schema-clause-stops c =
    err_is _ _ _ c.from_residual.ensures.1
    (schema_early (fsm_meaning (fsm_view c.args.fsm.now)) c.args.file.now c.in_err-schema.field-0.0 (fsm_refuses_schema (fsm_view c.args.fsm.now)) c.in_err-schema.ensures)

pub returns-in_err-leaves-clause-stops : goal.returns-in_err-leaves-clause-stops
returns-in_err-leaves-clause-stops c =
    err_is _ _ _ c.from_residual-in_err-leaves.ensures.1
    (fsm_field_early (fsm_view c.args.fsm.now) c.args.file.now (map string_bytes c.deref.result.now) (schema_view c.in_ok-schema.schema) c.in_err-leaves.field-0.0
    (ap (map string_bytes) c.deref.ensures.value) c.in_ok-schema.ensures c.in_err-leaves.ensures.stops)

pub returns-clause-text : goal.returns-clause-text
returns-clause-text c =
    fsm_ends (fsm_view c.args.fsm.now) c.args.file.now (string_bytes c.in_ok-text.text) (map string_bytes c.deref.result.now) (schema_view c.in_ok-schema.schema) (map path_view c.deref-2.result.now)
    (ap (map string_bytes) c.deref.ensures.value) c.in_ok-schema.ensures (c.in_ok-leaves.ensures.leaves ∙ ap (λ (ps : List Path). Ok (map path_view ps)) (sym c.deref-2.ensures.value)) c.in_ok-text.ensures
