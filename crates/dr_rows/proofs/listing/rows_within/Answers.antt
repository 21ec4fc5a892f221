use Rattle.std.proofs.Common.{◌≡◌, ◌++◌, ◌∙◌, ap, sym, arith, length, map, take, drop, List, rules}
use Rattle.std.specs.Prelude.{option_map}
use Rattle.std.proofs.lemmas.List.{map-append, take-append-drop}
use Rattle.dr_nested.specs.PathView.{step_view, paths_view}
use Rattle.dr_rows.specs.Known.{Known}
use Rattle.dr_rows.specs.Views.{lent_cells, lent_instance, row_view}
use Rattle.dr_rows.specs.Walking.{rows_from_end}
use Rattle.dr_rows.proofs.FillingLemmas.{cells-length, paths-length}
use Rattle.dr_rows.proofs.CutLemmas.{within_are}
use Rattle.dr_rows.proofs.listing.rows_within.Goals as goal

pub returns-clause-rows : goal.returns-clause-rows
returns-clause-rows c =
    let ls = c.args.leaves.now in
    let row = c.args.row in
    let p = map step_view (take c.args.depth c.args.chain.now) in
    let r = map step_view (drop c.args.depth c.args.chain.now) in
    let m : length (lent_cells row.values.now) ≡ length (paths_view ls) = omega (arith, cells-length row.values.now, paths-length ls, c.requires.values) in
    let d : map step_view c.args.chain.now ≡ p ++ r = ap (map step_view) (sym (take-append-drop c.args.depth c.args.chain.now)) ∙ map-append step_view (take c.args.depth c.args.chain.now) (drop c.args.depth c.args.chain.now) in
    let same : lent_cells c.deref_mut.result.now ≡ lent_cells row.values.now = search rules in
    λ whole h e.
    c.in_ok-walk_from_end.ensures.rows
    ∙ ap (λ (k : List Known). k ++ rows_from_end (paths_view ls) p r (lent_cells c.deref_mut.result.now) (option_map lent_instance row.end)) c.new-rows.ensures.none
    ∙ ap (λ vs. rows_from_end (paths_view ls) p r vs (option_map lent_instance row.end)) same
    ∙ within_are (paths_view ls) p r (map step_view c.args.chain.now) whole (row_view row) m d h e
