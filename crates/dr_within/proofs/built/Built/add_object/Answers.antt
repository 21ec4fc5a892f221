use Rattle.std.proofs.Common.{[], ◌∷◌, length, sym, ap, subst, ◌∙◌}
use Rattle.dr_cells.specs.Results.{result_cells}
use Rattle.dr_made_laws.specs.ObjectFlow.{built}
use Rattle.dr_made_laws.specs.ObjectFlowLaws.{made_objects}
use Rattle.dr_within.specs.ObjectFraming.{built_in, AreRuns}
use Rattle.dr_within.proofs.FramingLemmas.{on_ok}
use Rattle.dr_within.proofs.MadeParts.{built_both}
use Rattle.dr_within.proofs.RunLemmas.{object_run, one_object_more}
use Rattle.dr_within.proofs.built.Built.add_object.Goals as goal

pub returns : goal.returns
returns c = on_ok c.add_run.result _ _ (λ call made o a e f.
    let k = c.args.level in
    let before = result_cells (made_objects made) in
    record {
      runs = subst (AreRuns c.add_run.new.runs.items) (sym (built_both made (built k o ∷ [])))
          (call (built_in made) (o ∷ []) a (object_run k before o _ c.args.first _ (c.len.ensures ∙ ap length e) f c.saturating_sub-cells.ensures));
      cells = e ∙ sym (one_object_more k made o);
    }) c.add_run.ensures
