use Rattle.std.proofs.Common.{◌++◌, ◌∙◌, sym, ap, drop, get_or, ◌+◌}
use Rattle.std.specs.List.{slice_get}
use Rattle.dr_cells.specs.Views.{cells_view}
use Rattle.dr_mean.specs.ObjectCells.{item_cells, items_cells, items_view}
use Rattle.dr_mean.proofs.ItemLemmas.{items_next, below_at, joined_more}
use Rattle.dr_mean.proofs.objects.push_items.Goals as goal

pub places-preserved : goal.places-preserved
places-preserved c =
    let items = items_view c.args.items.leaves.now c.args.items.items.now in
    let ns = c.args.places.now in
    let k = c.places.place-index in
    let n = get_or ns k 0 in
    let before = cells_view c.places.cells in
    λ p whole r d b.
    joined_more before (cells_view c.push_item.new.cells) (item_cells (slice_get items n) whole) (items_cells items (drop (k + 1) ns) whole)
    (c.in_ok-push_item.ensures p whole r d (below_at items p ns k c.places-test.true b))
    ∙ ap (λ cs. before ++ cs) (sym (items_next items ns k whole c.places-test.true)) ∙ c.places.invariant p whole r d b
