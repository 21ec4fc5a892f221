use Rattle.std.proofs.Common.{◌≡◌, ◌<◌, ◌+◌, ◌∙◌, ap, ℕ, length}
use Rattle.std.specs.Prelude.{if◌then◌else◌}
use Rattle.dr_plan.specs.Objects.{object_view}
use Rattle.dr_cells.specs.Views.{cells_view}
use Rattle.dr_mean.specs.ObjectCells.{items_view}
use Rattle.dr_mean.proofs.LineLemmas.{cells_more, count_more, selects_drop, within_one}
use Rattle.dr_mean.proofs.lines.push_records.Goals as goal

pub records-preserved : goal.records-preserved
records-preserved c =
    let plan = c.args.plan.now in
    let ls = c.args.items.leaves.now in
    let is = c.args.items.items.now in
    let o = object_view c.args.object.now in
    let ns = c.args.records.now in
    let k = c.records.whole-index in
    let n = c.whole-item.result in
    let b = c.in_ok-kept.kept in
    let h : k < length ns = c.records-test.true in
    let one : c.count_one-count.result ≡ (if b then 1 else 0) = c.count_one-count.ensures in
    record {
      within = within_one b c.records.count c.count_one-count.result k c.records.invariant.within one;
      counted = λ s. count_more plan ns k n c.records.count _ b h c.whole-item.is (c.in_ok-kept.ensures.kept (selects_drop plan ls is o ns k n h c.whole-item.is s)) (ap (λ (i : ℕ). c.records.count + i) one)
          ∙ c.records.invariant.counted s;
      cells = λ s. cells_more plan (items_view ls is) o ns k n (cells_view c.records.cells) (cells_view c.push_record.new.cells) h c.whole-item.is
          (c.in_ok-kept.ensures.cells (selects_drop plan ls is o ns k n h c.whole-item.is s)) ∙ c.records.invariant.cells s;
    }
