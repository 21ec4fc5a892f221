use Rattle.std.proofs.Common.{◌++◌, ◌∙◌, sym, ap, Option}
use Rattle.dr_meaning.specs.Record.{Node}
use Rattle.dr_nested.specs.Views.{node_view}
use Rattle.dr_plan.specs.Objects.{object_view}
use Rattle.dr_cells.specs.Views.{cells_view}
use Rattle.dr_mean.specs.Lines.{kept_cells, plan_kept}
use Rattle.dr_mean.specs.ObjectCells.{items_view}
use Rattle.dr_mean.proofs.LineLemmas.{is_kept, selects_kept, plan_typed}
use Rattle.dr_mean.proofs.lines.push_kept.Goals as goal

pub returns-clause-cells : goal.returns-clause-cells
returns-clause-cells c =
    let plan = c.args.plan.now in
    let ls = c.args.items.leaves.now in
    let is = c.args.items.items.now in
    let o = object_view c.args.object.now in
    let n = node_view c.args.whole.now in
    let m = node_view c.keep.new.whole in
    λ s.
    let left = is_kept c.in_ok-keep.field-0 m (plan_kept plan n) c.if-not-branch.false (c.in_ok-keep.ensures (plan_typed plan ls is o n s)) in
    c.in_ok-push_whole.ensures plan (selects_kept plan ls is o n m left s)
    ∙ ap (λ (x : Option Node). cells_view c.args.cells.now ++ kept_cells (items_view ls is) o x) (sym left)
