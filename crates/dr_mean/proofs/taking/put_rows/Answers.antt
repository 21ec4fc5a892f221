use Rattle.std.proofs.Common.{◌≤◌, ◌+◌, ◌∙◌, sym, ap, arith, List, length, map, drop}
use Rattle.std.proofs.lemmas.List.{drop_all, length-map}
use Rattle.dr_meaning.specs.Record.{Node}
use Rattle.dr_meaning.specs.Rows.{rows}
use Rattle.dr_nested.specs.PathView.{path_view, paths_view}
use Rattle.dr_partials.specs.Putting.{put_all}
use Rattle.dr_plan.specs.Planned.{planned_query}
use Rattle.dr_group.specs.Partials.{partial_view}
use Rattle.dr_rows.specs.Known.{known}
use Rattle.dr_rows.specs.Views.{row_view, rows_view}
use Rattle.dr_mean.specs.Takings.{put_of}
use Rattle.dr_mean.proofs.RowIsLemmas.{row_is, row_values}
use Rattle.dr_mean.proofs.taking.put_rows.Goals as goal

pub rows-preserved : goal.rows-preserved
rows-preserved c =
    let leaves = c.args.groups.leaves.now in
    let one = put_of (map path_view leaves) c.args.groups.keys.now c.args.taking in
    let i = c.rows.number in
    let r = c.row-row.result in
    let known_rows = rows_view c.args.rows.now in
    record {
      of_plan = λ p h. c.put_row.ensures.of_plan p (c.rows.invariant.of_plan p h);
      puts = λ p chain whole h t f e.
          let there = row_is leaves chain whole known_rows i (row_view r) (drop (i + 1) known_rows) t e c.row-row.ensures.row in
          ap (put_all (planned_query p) (map one (drop (i + 1) (rows chain whole))))
          (c.in_ok-put_row.ensures.puts p there.row (c.rows.invariant.of_plan p h) (row_values leaves chain there.row r there.is) f)
          ∙ ap (λ (rs : List Node). put_all (planned_query p) (map one rs) (partial_view c.rows.partial)) (sym there.next)
          ∙ c.rows.invariant.puts p chain whole h t f e;
    }

pub returns-clause-puts : goal.returns-clause-puts
returns-clause-puts c =
    let leaves = c.args.groups.leaves.now in
    let one = put_of (map path_view leaves) c.args.groups.keys.now c.args.taking in
    let i = c.rows.number in
    λ p chain whole h t f e.
    let l : length (rows chain whole) ≤ i = omega (arith, ap length e, length-map (rows chain whole) (known (paths_view leaves) chain)) in
    ap (λ (rs : List Node). put_all (planned_query p) (map one rs) (partial_view c.rows.partial)) (sym (drop_all i (rows chain whole) l)) ∙ c.rows.invariant.puts p chain whole h t f e

pub returns-in_err-put_row-clause-of_plan : goal.returns-in_err-put_row-clause-of_plan
returns-in_err-put_row-clause-of_plan c = λ p h. c.put_row.ensures.of_plan p (c.rows.invariant.of_plan p h)
