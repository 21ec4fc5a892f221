use Rattle.std.proofs.Common.{◌≡◌, ◌++◌, ◌∙◌, ap, arith, length, map, List, rules}
use Rattle.dr_nested.specs.PathView.{step_view, paths_view}
use Rattle.dr_nested.specs.Views.{node_view}
use Rattle.dr_meaning.specs.Record.{inner}
use Rattle.dr_rows.specs.Known.{Known}
use Rattle.dr_rows.specs.Views.{lent_cells}
use Rattle.dr_rows.specs.Walking.{rows_below}
use Rattle.dr_rows.proofs.FillingLemmas.{cells-length, paths-length}
use Rattle.dr_rows.proofs.RowsLemmas.{rows_are}
use Rattle.std.specs.Prelude.{[]}
use Rattle.dr_rows.proofs.listing.rows_of.Goals as goal

pub returns-clause-rows : goal.returns-clause-rows
returns-clause-rows c =
    let ls = c.args.leaves.now in
    let vs = c.deref_mut.result.now in
    let chain = map step_view c.args.chain.now in
    let n : length vs ≡ length ls = search rules in
    let m : length (lent_cells vs) ≡ length (paths_view ls) = omega (arith, cells-length vs, paths-length ls) in
    c.in_ok-walk.ensures.rows
    ∙ ap (λ (r : List Known). r ++ rows_below (paths_view ls) [] chain (inner (node_view c.args.whole.now)) (lent_cells vs)) c.new-rows.ensures.none
    ∙ rows_are (paths_view ls) chain (node_view c.args.whole.now) (lent_cells vs) m
