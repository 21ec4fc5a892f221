use Rattle.std.proofs.Common.{◌≡◌, ◌<◌, ◌≤◌, ◌++◌, List, length, get_or, sym, ap, ap₂, subst, ◌∙◌, append_assoc}
use Rattle.std.specs.Prelude.{map}
use Rattle.dr_cells.specs.Results.{ResultCell, result_cells}
use Rattle.dr_cells.specs.Views.{cells_view}
use Rattle.dr_cells.proofs.ReadingLemmas.{result_cells-append}
use Rattle.dr_made_laws.specs.ObjectFlow.{Made, built}
use Rattle.dr_made_laws.specs.ObjectFlowLaws.{made_objects}
use Rattle.dr_within.specs.ObjectFraming.{built_in, AreRuns}
use Rattle.dr_within.specs.declared.built.Run.{Run}
use Rattle.dr_within.proofs.MadeParts.{built_both, objects_both}
use Rattle.dr_within.proofs.RunLemmas.{runs_step, runs_end}
use Rattle.dr_within.proofs.built.Built.append.Goals as goal

pub runs-preserved : goal.runs-preserved
runs-preserved c =
    let rs = c.args.more.now.runs.items in
    let i = c.runs.run-index in
    let d : Run = record { level = 0; count = 0; cells = 0 } in
    let r : Run = get_or c.deref-run-items.result.now i d in
    let v = c.deref-run-items.ensures.value in
    let here : r ≡ get_or rs i d = ap (λ (xs : List Run). get_or xs i d) v in
    let there : i < length rs = subst (λ (xs : List Run). i < length xs) v c.runs-test.true in
    record {
      cells = c.runs.invariant.cells;
      runs = λ ms others a o. runs_step rs others i r d (λ (front : List Made). AreRuns c.runs.self.runs.items (ms ++ front)) (λ (front : List Made). AreRuns c.add_run.new.runs.items (ms ++ front)) there here
          (λ front rest os p f w. subst (AreRuns c.add_run.new.runs.items) (append_assoc ms front (map (built r.level) os)) (c.in_ok-add_run.ensures (ms ++ front) os f w)) (c.runs.invariant.runs ms others a o);
    }

pub returns : goal.returns
returns c = λ made others h k.
    let rs = c.args.more.now.runs.items in
    let i = c.runs.run-index in
    let past : length rs ≤ i = subst (λ (xs : List Run). length xs ≤ i) c.deref-run-items.ensures.value c.runs-test.false in
    record {
      runs = subst (AreRuns c.runs.self.runs.items) (sym (built_both made others))
          (runs_end rs (built_in others) i (λ (front : List Made). AreRuns c.runs.self.runs.items (built_in made ++ front)) past (c.runs.invariant.runs (built_in made) (built_in others) h.runs k.runs));
      cells = ap cells_view c.runs.invariant.cells ∙ c.in_ok-append.ensures ∙ ap₂ (λ (x y : List ResultCell). x ++ y) h.cells k.cells
          ∙ sym (result_cells-append (made_objects made) (made_objects others)) ∙ ap result_cells (sym (objects_both made others));
    }
