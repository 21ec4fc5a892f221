use Rattle.std.proofs.Common.{◌∙◌, sym, ap, map}
use Rattle.std.specs.Prelude.{string_bytes}
use Rattle.dr_nested.specs.Views.{kind_view}
use Rattle.dr_nested.specs.PathView.{step_view}
use Rattle.dr_meta.specs.Views.{item_view}
use Rattle.dr_open.specs.Places.{behind_leaves}
use Rattle.dr_open.proofs.FieldLemmas.{no_names_left, no_steps_left, path_goes_in, path_goes_nowhere}
use Rattle.dr_open.proofs.place.+place.Goals as goal

pub place_in_group-returns-in_err-name-clause-place : goal.place_in_group-returns-in_err-name-clause-place
place_in_group-returns-in_err-name-clause-place t c = c.from_residual.ensures ∙ sym (no_names_left string_bytes c.args.names.now _ _ c.args.fields _ c.in_err-name.ensures.cases)

pub place_in_group-returns-in_err-step-clause-place : goal.place_in_group-returns-in_err-step-clause-place
place_in_group-returns-in_err-step-clause-place t c = c.from_residual-in_err-step.ensures ∙ sym (no_steps_left step_view c.args.steps.now _ _ c.args.fields _ c.in_err-step.ensures.cases)

pub place_in_group-returns-then-not-is_on_way-clause-place : goal.place_in_group-returns-then-not-is_on_way-clause-place
place_in_group-returns-then-not-is_on_way-clause-place t c =
    sym (path_goes_nowhere string_bytes step_view c.args.names.now c.in_ok-name.name.now c.in_ok-name.names.now c.args.steps.now c.in_ok-step.step.now c.in_ok-step.steps.now c.as_bytes-name.result.now (kind_view c.args.kind) c.args.fields c.in_ok-found.found.before (map item_view c.args.items.now) (item_view c.in_ok-found.found.item.now) (map item_view c.in_ok-found.found.behind.now)
    c.in_ok-name.ensures.cases.0 c.in_ok-step.ensures.cases.0 c.as_bytes-name.ensures.value (record { place = c.in_ok-found.ensures.some; name = c.in_ok-found.ensures.name }) (sym c.is_on_way.ensures ∙ c.if-not-is_on_way.true))

pub place_in_group-returns-in_err-inside-clause-place : goal.place_in_group-returns-in_err-inside-clause-place
place_in_group-returns-in_err-inside-clause-place t c =
    c.from_residual-in_err-inside.ensures ∙ sym (path_goes_in string_bytes step_view c.args.names.now c.in_ok-name.name.now c.in_ok-name.names.now c.args.steps.now c.in_ok-step.step.now c.in_ok-step.steps.now c.as_bytes-name.result.now (kind_view c.args.kind) c.args.fields c.in_ok-found.found.before (map item_view c.args.items.now) (item_view c.in_ok-found.found.item.now) (map item_view c.in_ok-found.found.behind.now)
    c.in_ok-name.ensures.cases.0 c.in_ok-step.ensures.cases.0 c.as_bytes-name.ensures.value (record { place = c.in_ok-found.ensures.some; name = c.in_ok-found.ensures.name }) (sym c.is_on_way.ensures ∙ c.if-not-is_on_way.false) ∙ ap (behind_leaves c.in_ok-found.found.before) (sym c.in_err-inside.ensures.place))

pub place_in_group-returns-clause-place : goal.place_in_group-returns-clause-place
place_in_group-returns-clause-place t c =
    sym (path_goes_in string_bytes step_view c.args.names.now c.in_ok-name.name.now c.in_ok-name.names.now c.args.steps.now c.in_ok-step.step.now c.in_ok-step.steps.now c.as_bytes-name.result.now (kind_view c.args.kind) c.args.fields c.in_ok-found.found.before (map item_view c.args.items.now) (item_view c.in_ok-found.found.item.now) (map item_view c.in_ok-found.found.behind.now)
    c.in_ok-name.ensures.cases.0 c.in_ok-step.ensures.cases.0 c.as_bytes-name.ensures.value (record { place = c.in_ok-found.ensures.some; name = c.in_ok-found.ensures.name }) (sym c.is_on_way.ensures ∙ c.if-not-is_on_way.false) ∙ ap (behind_leaves c.in_ok-found.found.before) (sym c.in_ok-inside.ensures.place))
