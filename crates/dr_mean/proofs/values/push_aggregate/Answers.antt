use Rattle.std.proofs.Common.{◌≡◌, ◌++◌, ◌∷◌, [], ◌∙◌, ap, arith, Option, List, map}
use Rattle.dr_meaning.specs.Path.{Step, begins_with}
use Rattle.dr_meaning.specs.Record.{Value}
use Rattle.dr_meaning.specs.Rows.{rows}
use Rattle.dr_meaning.specs.Expression.{evaluate, expression_chain}
use Rattle.dr_nested.specs.PathView.{path_view, step_view, paths_view}
use Rattle.dr_partials.specs.Accumulators.{Accumulator, result_of}
use Rattle.dr_partials.proofs.AccumulatorLemmas.{gives_aggregate}
use Rattle.dr_plan.specs.Views.{expr_view, fold_view}
use Rattle.dr_rows.specs.Known.{known}
use Rattle.dr_rows.specs.Views.{row_view}
use Rattle.dr_cells.specs.Results.{value_cell}
use Rattle.dr_cells.specs.Views.{cells_view}
use Rattle.dr_mean.proofs.WithinLemmas.{row_within, on_ok_by}
use Rattle.dr_mean.proofs.values.push_aggregate.Goals as goal

pub returns : goal.returns
returns c =
    let ls = c.args.leaves.now in
    let w = c.args.within.now in
    let e = expr_view (map path_view ls) w.argument in
    let lv = c.expression_chain-chain.result.now in
    let before = cells_view c.args.cells.now in
    on_ok_by c.push_gathered.result _ _ c.push_gathered.ensures (λ pushed. λ chain whole r d f b.
    let begins : begins_with chain (map step_view lv) ≡ _ = ap (begins_with chain) c.expression_chain-chain.ensures ∙ b in
    let at = row_within ls chain lv c.min.result (row_view c.args.row) whole r begins (λ h. omega (arith, c.min.ensures)) in
    let there = c.in_ok-rows.ensures.rows whole at.0 at.1 ∙ ap (λ (p : List Step). map (known (paths_view ls) p) (rows p whole)) c.expression_chain-chain.ensures in
    let gathered = c.in_ok-gathered.ensures ls (expression_chain e) whole r.typed f there in
    pushed ∙ ap (λ (x : Accumulator). before ++ value_cell (result_of x) ∷ []) gathered
    ∙ ap (λ (v : Option Value). before ++ value_cell v ∷ []) (gives_aggregate (fold_view w.fold) (map (evaluate e) (rows (expression_chain e) whole))))
