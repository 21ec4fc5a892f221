use Rattle.std.proofs.Common.{◌∙◌, sym, map}
use Rattle.std.specs.Prelude.{string_bytes}
use Rattle.dr_formats.specs.FileSchema.{repetition_from}
use Rattle.dr_meta.specs.Views.{item_view}
use Rattle.dr_nested.specs.PathView.{step_view}
use Rattle.dr_open.proofs.PassingLemmas.{there}
use Rattle.dr_open.proofs.SourceLemmas.{goes_off}
use Rattle.dr_open.proofs.lacking.+lacking_group.Goals as goal

pub returns-then-not-is_on_way-clause-none : goal.returns-then-not-is_on_way-clause-none
returns-then-not-is_on_way-clause-none t c =
    let r = there (repetition_from c.in-Some.found.item.now.repetition) c.in-Some.ensures.repetition in
    goes_off string_bytes step_view c.args.names.now c.args.steps.now c.in_ok-name.name.now c.in_ok-name.names.now c.in_ok-step.step.now c.in_ok-step.steps.now c.as_bytes-name.result.now c.args.fields (map item_view c.args.items.now)
    (record { name = c.in_ok-name.ensures.cases.0; step = c.in_ok-step.ensures.cases.0; bytes = c.as_bytes-name.ensures.value; fields = c.requires })
    (item_view c.in-Some.found.item.now) (map item_view c.in-Some.found.behind.now) r.0 c.in-Some.ensures.first r.1 c.in-Some.ensures.shape (sym c.is_on_way.ensures ∙ c.if-not-is_on_way.true)
