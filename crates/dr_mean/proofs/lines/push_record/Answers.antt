use Rattle.std.proofs.Common.{◌≡◌, ◌++◌, ◌∙◌, ap, List, map, is_some}
use Rattle.dr_meaning.specs.Record.{Node, project}
use Rattle.dr_nested.specs.Views.{node_view}
use Rattle.dr_nested.specs.PathView.{path_view, paths_view}
use Rattle.dr_nested.specs.declared.path.Path.{Path}
use Rattle.dr_plan.specs.Objects.{object_view}
use Rattle.dr_cells.specs.Views.{cells_view}
use Rattle.dr_mean.specs.Lines.{kept_cells, plan_kept}
use Rattle.dr_mean.specs.ObjectCells.{items_view}
use Rattle.dr_mean.proofs.LineLemmas.{selects_as}
use Rattle.dr_mean.proofs.WithinLemmas.{on_ok_by, if_ok_by}
use Rattle.dr_mean.proofs.lines.push_record.Goals as goal

pub returns-clause-kept : goal.returns-clause-kept
returns-clause-kept c =
    let plan = c.args.plan.now in
    let n = node_view c.args.whole.now in
    let m = node_view c.in_ok-projected.projected in
    let e : m ≡ project (paths_view plan.leaves.items) n = c.in_ok-projected.ensures ∙ ap (λ (ls : List Path). project (map (λ (p : Path). (path_view p).path) ls) n) c.deref.ensures.value in
    if_ok_by c.push_kept.result _ _ c.push_kept.ensures.kept (λ b told. λ s.
    told (selects_as plan c.args.items.leaves.now c.args.items.items.now (object_view c.args.object.now) m (project (paths_view plan.leaves.items) n) e s) ∙ ap (λ (x : Node). is_some (plan_kept plan x)) e)

pub returns-clause-cells : goal.returns-clause-cells
returns-clause-cells c =
    let plan = c.args.plan.now in
    let n = node_view c.args.whole.now in
    let m = node_view c.in_ok-projected.projected in
    let e : m ≡ project (paths_view plan.leaves.items) n = c.in_ok-projected.ensures ∙ ap (λ (ls : List Path). project (map (λ (p : Path). (path_view p).path) ls) n) c.deref.ensures.value in
    on_ok_by c.push_kept.result _ _ c.push_kept.ensures.cells (λ told. λ s.
    told (selects_as plan c.args.items.leaves.now c.args.items.items.now (object_view c.args.object.now) m (project (paths_view plan.leaves.items) n) e s)
    ∙ ap (λ (x : Node). cells_view c.args.cells.now ++ kept_cells (items_view c.args.items.leaves.now c.args.items.items.now) (object_view c.args.object.now) (plan_kept plan x)) e)
