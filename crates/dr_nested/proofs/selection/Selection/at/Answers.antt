use Rattle.std.proofs.Common.{sym, ap, ◌∙◌, Some}
use Rattle.dr_nested.specs.SelectionView.{choice_view, selection_view}
use Rattle.dr_nested.specs.declared.selection.Selection.{Selection}
use Rattle.dr_nested.proofs.SelectionLemmas.{view-skipped, view-chosen, selection_at, selection_past}
use Rattle.dr_nested.proofs.selection.Selection.at.Goals as goal

pub returns-in-Some-Chosen : goal.returns-in-Some-Chosen
returns-in-Some-Chosen c =
    let l = c.in-Some-Chosen.ensures.lookup in
    ap (λ (b : Selection). Some (selection_view b)) c.in-Some-Chosen.below-is
    ∙ sym (selection_at c.args.self.now c.deref.result.now c.args.place c.in-Some-Chosen.field-0.now c.deref.ensures.value l.3.0 l.1
    ∙ ap choice_view c.in-Some-Chosen.field-0-is ∙ view-chosen _)

pub returns-in-Some-Skipped : goal.returns-in-Some-Skipped
returns-in-Some-Skipped c =
    let l = c.in-Some-Skipped.ensures.lookup in
    sym (selection_at c.args.self.now c.deref.result.now c.args.place c.in-Some-Skipped.field-0.now c.deref.ensures.value l.3.0 l.1
    ∙ ap choice_view c.in-Some-Skipped.field-0-is ∙ view-skipped)

pub returns-in-None : goal.returns-in-None
returns-in-None c = sym (selection_past c.args.self.now c.deref.result.now c.args.place c.deref.ensures.value c.in-None.ensures.lookup.3)
