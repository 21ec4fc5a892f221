use Rattle.std.proofs.Common.{◌≤◌, ◌+◌, ◌∙◌, sym, ap, arith, List, length, map, drop}
use Rattle.std.proofs.lemmas.List.{drop_all, length-map}
use Rattle.dr_meaning.specs.Record.{Node}
use Rattle.dr_meaning.specs.Rows.{rows}
use Rattle.dr_meaning.specs.Expression.{evaluate}
use Rattle.dr_nested.specs.PathView.{path_view, paths_view}
use Rattle.dr_partials.specs.Accumulators.{Accumulator}
use Rattle.dr_plan.specs.Views.{expr_view, fold_view}
use Rattle.dr_group.specs.Views.{accumulator_view}
use Rattle.dr_rows.specs.Known.{known}
use Rattle.dr_rows.specs.Views.{row_view, rows_view}
use Rattle.dr_mean.proofs.RowIsLemmas.{row_is, row_values}
use Rattle.dr_mean.proofs.GatheringLemmas.{taken_all, taken_from_none}
use Rattle.dr_mean.proofs.values.gather.Goals as goal

pub rows-init : goal.rows-init
rows-init c = λ ls chain whole t f e.
    ap (λ (x : Accumulator). taken_all x (map (evaluate (expr_view (map path_view ls) c.args.expression.now)) (rows chain whole))) c.new-gathered.ensures
    ∙ taken_from_none (fold_view c.args.fold) (map (evaluate (expr_view (map path_view ls) c.args.expression.now)) (rows chain whole))

pub rows-preserved : goal.rows-preserved
rows-preserved c =
    let i = c.rows.number in
    let r = c.row-row.result in
    λ ls chain whole t f e.
    let value = evaluate (expr_view (map path_view ls) c.args.expression.now) in
    let there = row_is ls chain whole (rows_view c.args.rows.now) i (row_view r) (drop (i + 1) (rows_view c.args.rows.now)) t e c.row-row.ensures.row in
    ap (λ (x : Accumulator). taken_all x (map value (drop (i + 1) (rows chain whole)))) (c.in_ok-take.ensures (map path_view ls) there.row (row_values ls chain there.row r there.is) f)
    ∙ ap (λ (rs : List Node). taken_all (accumulator_view c.rows.gathered) (map value rs)) (sym there.next) ∙ c.rows.invariant ls chain whole t f e

pub returns : goal.returns
returns c =
    let i = c.rows.number in
    λ ls chain whole t f e.
    let value = evaluate (expr_view (map path_view ls) c.args.expression.now) in
    let l : length (rows chain whole) ≤ i = omega (arith, ap length e, length-map (rows chain whole) (known (paths_view ls) chain)) in
    ap (λ (rs : List Node). taken_all (accumulator_view c.rows.gathered) (map value rs)) (sym (drop_all i (rows chain whole) l)) ∙ c.rows.invariant ls chain whole t f e
