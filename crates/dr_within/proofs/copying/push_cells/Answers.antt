use Rattle.std.proofs.Common.{◌≡◌, ◌≤◌, ◌+◌, ◌-◌, ◌++◌, ◌∷◌, [], ℕ, List, take, drop, sym, ap, ◌∙◌, append_assoc, arith}
use Rattle.std.proofs.lemmas.List.{drop-drop}
use Rattle.dr_cells.specs.Results.{ResultCell}
use Rattle.dr_cells.specs.Views.{cells_view, lent_cell}
use Rattle.dr_within.proofs.CopyLemmas.{take_one_more}
use Rattle.dr_within.proofs.copying.push_cells.Goals as goal

pub cells-preserved : goal.cells-preserved
cells-preserved c =
    let all = cells_view c.args.from.now in
    let s = c.args.start in
    let n = c.cells.number in
    let le : s ≤ n = c.cells.auto.number in
    let at : s + (n - s) ≡ n = omega arith in
    let one : n + 1 - s ≡ (n - s) + 1 = omega arith in
    let there : drop (n - s) (drop s all) ≡ lent_cell c.get.result ∷ drop (n + 1) all = drop-drop (n - s) s all ∙ ap (λ (k : ℕ). drop k all) at ∙ c.get.ensures in
    c.in_ok-push_cell.ensures ∙ ap (λ (x : List ResultCell). x ++ lent_cell c.get.result ∷ []) c.cells.invariant
    ∙ append_assoc (cells_view c.args.cells.now) (take (n - s) (drop s all)) (lent_cell c.get.result ∷ [])
    ∙ ap (λ (x : List ResultCell). cells_view c.args.cells.now ++ x) (sym (take_one_more (n - s) (drop s all) (lent_cell c.get.result) (drop (n + 1) all) there) ∙ ap (λ (k : ℕ). take k (drop s all)) (sym one))
