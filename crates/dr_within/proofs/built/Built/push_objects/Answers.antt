use Rattle.std.proofs.Common.{◌≡◌, ◌<◌, ◌≤◌, ◌++◌, List, length, get_or, sym, ap, subst, ◌∙◌}
use Rattle.dr_meaning.specs.Query.{Object}
use Rattle.dr_cells.specs.Results.{result_cells}
use Rattle.dr_cells.specs.Views.{cells_view}
use Rattle.dr_made_laws.specs.ObjectFlow.{Made}
use Rattle.dr_within.specs.ObjectFraming.{built_in}
use Rattle.dr_within.specs.declared.built.Run.{Run}
use Rattle.dr_within.proofs.MadeParts.{objects_of_built, objects_for_built}
use Rattle.dr_within.proofs.RunLemmas.{Copied, runs_step, runs_end, copied_as, copied_more, copied_same}
use Rattle.dr_within.proofs.built.Built.push_objects.Goals as goal
use Rattle.dr_within.proofs.built.Built.push_objects.Goals.{then-run-level+in_ok-push_cells, else-run-level}

pub runs-preserved : goal.runs-preserved
runs-preserved c = λ made h.
    let rs = c.args.self.now.runs.items in
    let i = c.runs.run-index in
    let d : Run = record { level = 0; count = 0; cells = 0 } in
    let r : Run = get_or c.deref-run-items.result.now i d in
    let v = c.deref-run-items.ensures.value in
    let here : r ≡ get_or rs i d = ap (λ (xs : List Run). get_or xs i d) v in
    let there : i < length rs = subst (λ (xs : List Run). i < length xs) v c.runs-test.true in
    let k = c.args.level in
    let all = cells_view c.args.self.now.cells in
    let before = cells_view c.args.cells.now in
    let next = c.in-Some.ensures.1 in
    runs_step rs (built_in made) i r d (λ (front : List Made). Copied k before (cells_view c.runs.cells) c.runs.start front) (λ (front : List Made). Copied k before (cells_view c.if-run-level.cells) c.in-Some.next front) there here
    (λ front rest os p f w. elim c.if-run-level.branch [
      | then-run-level+in_ok-push_cells b ↦ copied_more k before (cells_view c.runs.cells) (cells_view c.if-run-level.cells) all c.runs.start c.in-Some.next r (built_in made) front rest os b.if-run-level.true
          (h.cells ∙ ap result_cells (sym (objects_of_built made))) p (ap cells_view b.cells-is ∙ b.in_ok-push_cells.ensures) next f w
      | else-run-level b ↦ copied_as k before (cells_view c.runs.cells) (cells_view c.if-run-level.cells) c.in-Some.next _ (ap cells_view b.cells-is) (copied_same k before (cells_view c.runs.cells) c.runs.start c.in-Some.next r front os b.if-run-level.false next f w)
    ]) (c.runs.invariant made h)

pub returns : goal.returns
returns c = λ made h.
    let rs = c.args.self.now.runs.items in
    let i = c.runs.run-index in
    let k = c.args.level in
    let before = cells_view c.args.cells.now in
    let past : length rs ≤ i = subst (λ (xs : List Run). length xs ≤ i) c.deref-run-items.ensures.value c.runs-test.false in
    let all : Copied k before (cells_view c.runs.cells) c.runs.start (built_in made) = runs_end rs (built_in made) i (λ (front : List Made). Copied k before (cells_view c.runs.cells) c.runs.start front) past (c.runs.invariant made h) in
    all.cells ∙ ap (λ (os : List Object). before ++ result_cells os) (objects_for_built k made)
