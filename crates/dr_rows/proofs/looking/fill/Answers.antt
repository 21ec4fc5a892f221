use Rattle.std.proofs.Common.{◌∙◌, ap, map, rules, arith, add-one}
use Rattle.std.proofs.Math.ListN.{set}
use Rattle.dr_nested.specs.PathView.{step_view, paths_view}
use Rattle.dr_rows.specs.Views.{lent_instance, lent_cells}
use Rattle.dr_rows.proofs.FillingLemmas.{filled_from, filled_more, filled_all, cells-length, paths-length}
use Rattle.dr_rows.proofs.looking.fill.Goals as goal

pub leaves-preserved : goal.leaves-preserved
leaves-preserved c =
    let ls = c.args.leaves.now in
    let q = map step_view c.args.front.now in
    let x = lent_instance c.args.instance in
    let k = c.leaves.number in
    ap (λ n. filled_from q x n (paths_view ls) (lent_cells (set c.leaves.values k c.value_of.result))) (add-one k)
    ∙ filled_more q x k ls c.leaves.values c.index-leaves-number.result _ c.value_of.result c.leaves-test.true (c.leaves.auto.values ∙ c.requires) c.index-leaves-number.is
    (search rules) c.value_of.ensures
    ∙ c.leaves.invariant

pub returns : goal.returns
returns c =
    let ls = c.args.leaves.now in
    let x = lent_instance c.args.instance in
    let n = paths-length ls in
    let m = cells-length c.leaves.values in
    let s = filled_all (map step_view c.args.front.now) x c.leaves.number (paths_view ls) (lent_cells c.leaves.values) (omega arith) (omega (arith, c.leaves.auto.values)) in
    (search (rules, s))
