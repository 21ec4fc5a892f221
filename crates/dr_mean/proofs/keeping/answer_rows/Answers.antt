use Rattle.std.proofs.Common.{◌≤◌, ◌+◌, ◌++◌, ◌∷◌, ◌∙◌, sym, ap, arith, append_assoc, append-nil, Bool, List, length, map, drop}
use Rattle.std.proofs.lemmas.List.{drop_all, length-map}
use Rattle.dr_meaning.specs.Record.{Node}
use Rattle.dr_meaning.specs.Rows.{rows}
use Rattle.dr_rows.specs.Known.{known}
use Rattle.dr_rows.specs.Views.{row_view, rows_view}
use Rattle.dr_scalar.specs.Tests.{all_true}
use Rattle.std.specs.List.{list_all}
use Rattle.dr_plan.specs.Fitting.{truth_fits}
use Rattle.dr_plan.specs.Planned.{plan_leaves}
use Rattle.dr_plan.specs.Views.{truth_view}
use Rattle.dr_plan.specs.declared.expression.Truth.{Truth}
use Rattle.dr_mean.specs.Condition.{plan_tests}
use Rattle.dr_mean.proofs.RowIsLemmas.{row_is, row_values}
use Rattle.dr_mean.proofs.keeping.answer_rows.Goals as goal
use Rattle.dr_nested.specs.PathView.{paths_view}

pub rows-preserved : goal.rows-preserved
rows-preserved c =
    let plan = c.args.plan.now in
    let i = c.rows.number in
    let r = c.row-row.result in
    let test = all_true (plan_tests plan) in
    let done = c.rows.answers.items in
    λ chain n t e.
    let there = row_is plan.leaves.items chain n (rows_view c.args.rows.now) i (row_view r) (drop (i + 1) (rows_view c.args.rows.now)) t e c.row-row.ensures.row in
    let later = map test (drop (i + 1) (rows chain n)) in
    let fits = ap (list_all (truth_fits (plan_leaves plan))) c.deref.ensures.value ∙ plan.tested in
    let b = c.in_ok-passes.ensures.each (plan_leaves plan) there.row (row_values plan.leaves.items chain there.row r there.is) fits ∙ ap (λ (ts : List Truth). all_true (map (truth_view (plan_leaves plan)) ts) there.row) c.deref.ensures.value in
    ap (λ (bs : List Bool). bs ++ later) c.in_ok-push.ensures.items ∙ append_assoc done _ later
    ∙ ap (λ (x : Bool). done ++ (x ∷ later)) b ∙ ap (λ (rs : List Node). done ++ map test rs) (sym there.next) ∙ c.rows.invariant chain n t e

pub returns : goal.returns
returns c =
    let plan = c.args.plan.now in
    let i = c.rows.number in
    let test = all_true (plan_tests plan) in
    let done = c.rows.answers.items in
    λ chain n t e.
    let f = known (paths_view plan.leaves.items) chain in
    let l : length (rows chain n) ≤ i = omega (arith, ap length e, length-map (rows chain n) f) in
    sym (append-nil done) ∙ ap (λ (rs : List Node). done ++ map test rs) (sym (drop_all i (rows chain n) l)) ∙ c.rows.invariant chain n t e
