use Rattle.std.proofs.Common.{◌≡◌, ◌≤◌, ◌<◌, ◌+◌, ◌-◌, ◌++◌, ◌∷◌, [], ℕ, List, Option, length, map, take, drop, sym, ap, ◌∙◌, append_assoc, arith}
use Rattle.std.proofs.lemmas.List.{drop-drop, map_push, length-map}
use Rattle.dr_meaning.specs.Record.{Value}
use Rattle.dr_cells.specs.Views.{cells_view}
use Rattle.dr_group.specs.Views.{lent_cell}
use Rattle.dr_within.specs.Late.{cell_value, cell_values}
use Rattle.dr_within.proofs.CopyLemmas.{take_one_more}
use Rattle.dr_within.proofs.LateLemmas.{first_then}
use Rattle.dr_within.proofs.keys.lend_key.Goals as goal

pub cells-preserved : goal.cells-preserved
cells-preserved c =
    let all = cell_values (cells_view c.args.from.now) in
    let old = map lent_cell c.args.cells.now.items in
    let s = c.args.start in
    let n = c.cells.number in
    let v = lent_cell c.in_ok-lend_cell.field-0 in
    let le : s ≤ n = c.cells.auto.number in
    let at : s + (n - s) ≡ n = omega arith in
    let one : n + 1 - s ≡ (n - s) + 1 = omega arith in
    let within : n < length all = omega (arith, c.cells-test.true, c.min-end.ensures, c.len.ensures, length-map (cells_view c.args.from.now) cell_value) in
    let there : drop (n - s) (drop s all) ≡ v ∷ drop (n + 1) all =
    drop-drop (n - s) s all ∙ (ap (λ (k : ℕ). drop k all) at ∙ (first_then all n within ∙ ap (λ (x : Option Value). x ∷ drop (n + 1) all) (sym c.in_ok-lend_cell.ensures))) in
    ap (map lent_cell) c.in_ok-push.ensures.items ∙ (map_push lent_cell c.cells.cells.items c.in_ok-lend_cell.field-0
    ∙ (ap (λ (x : List (Option Value)). x ++ v ∷ []) c.cells.invariant
    ∙ (append_assoc old (take (n - s) (drop s all)) (v ∷ [])
    ∙ ap (λ (x : List (Option Value)). old ++ x) (sym (take_one_more (n - s) (drop s all) v (drop (n + 1) all) there) ∙ ap (λ (k : ℕ). take k (drop s all)) (sym one)))))
