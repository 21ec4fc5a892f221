use Rattle.std.proofs.Common.{◌+◌, ◌∙◌, arith, map, take, drop}
use Rattle.dr_nested.specs.PathView.{step_view, paths_view}
use Rattle.dr_rows.specs.Views.{lent_instance, lent_cells, rows_view}
use Rattle.dr_rows.specs.Walking.{Keeps}
use Rattle.dr_rows.proofs.WalkingLemmas.{one_more, keeps_fill, keeps_both, keeps_from, on_ok}
use Rattle.dr_rows.proofs.walking.+walk.Goals as goal

pub returns-then-depth-chain-clause-others : goal.returns-then-depth-chain-clause-others
returns-then-depth-chain-clause-others t c =
    on_ok c.push.result (Keeps (paths_view c.args.leaves.now) (map step_view (take c.args.depth c.args.chain.now)) (lent_cells c.args.values.now) (lent_cells c.fill.new.values))
    (keeps_fill (paths_view c.args.leaves.now) (map step_view (take c.args.depth c.args.chain.now)) (lent_instance c.args.instance) (lent_cells c.args.values.now) (lent_cells c.fill.new.values) c.fill.ensures)

pub returns-then-is_empty-clause-others : goal.returns-then-is_empty-clause-others
returns-then-is_empty-clause-others t c =
    on_ok c.push-then-is_empty.result (Keeps (paths_view c.args.leaves.now) (map step_view (take c.args.depth c.args.chain.now)) (lent_cells c.args.values.now) (lent_cells c.fill.new.values))
    (keeps_fill (paths_view c.args.leaves.now) (map step_view (take c.args.depth c.args.chain.now)) (lent_instance c.args.instance) (lent_cells c.args.values.now) (lent_cells c.fill.new.values) c.fill.ensures)

pub instances-preserved : goal.instances-preserved
instances-preserved t c =
    let ps = paths_view c.args.leaves.now in
    let q = map step_view (take (c.args.depth + 1) c.args.chain.now) in
    let p = map step_view (drop (c.args.depth + 1) c.args.chain.now) in
    let vs = lent_cells c.fill.new.values in
    let us = lent_cells c.instances.values in
    record {
      rows = one_more ps q p vs us c.instances_at-instances.result.now c.instances.below-index c.below-item.result (lent_instance c.of.result) (rows_view c.instances.rows) (rows_view c.walk.new.rows)
          (omega arith) c.below-item.is c.of.ensures c.instances.invariant.others c.in_ok-walk.ensures.rows ∙ c.instances.invariant.rows;
      others = keeps_both ps q vs us (lent_cells c.walk.new.values) c.instances.invariant.others c.in_ok-walk.ensures.others;
      width = c.in_ok-walk.ensures.width ∙ c.instances.invariant.width;
    }

pub returns-clause-others : goal.returns-clause-others
returns-clause-others t c =
    let ps = paths_view c.args.leaves.now in
    keeps_from ps (map step_view (take c.args.depth c.args.chain.now)) (map step_view (take (c.args.depth + 1) c.args.chain.now)) _ (lent_instance c.args.instance)
    (lent_cells c.args.values.now) (lent_cells c.fill.new.values) (lent_cells c.instances.values) c.step_at.ensures.front c.fill.ensures c.instances.invariant.others
