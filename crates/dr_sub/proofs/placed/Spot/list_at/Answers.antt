use Rattle.std.proofs.Common.{◌≡◌, ◌∙◌, ◌≤◌, ◌<◌, ap, arith, map, drop, length, string_bytes, List}
use Rattle.std.proofs.lemmas.List.{length-map}
use Rattle.dr_cells.specs.Results.{ResultCell, first_count, count_lists}
use Rattle.dr_cells.specs.Shapes.{lists_view}
use Rattle.dr_cells.specs.Views.{cells_view}
use Rattle.dr_cells.specs.declared.shape.Shape as shapes
use Rattle.dr_sub.proofs.PlacedLemmas.{list_missing, list_is}
use Rattle.dr_ends.proofs.EndLemmas.{count_lists-view}
use Rattle.dr_sub.proofs.placed.Spot.list_at.Goals as goal

pub returns-then-number-len : goal.returns-then-number-len
returns-then-number-len c =
    let s = c.args.self.shape.now in
    let o = shapes.out-Shape s in
    let h : length o.lists.items ≤ c.args.number = omega (arith, c.if-number-len.true, c.len.ensures, o.lists.ok.0) in
    list_missing s (drop c.args.self.at (cells_view c.args.self.cells.now)) c.args.number h

pub returns : goal.returns
returns c =
    let s = c.args.self.shape.now in
    let o = shapes.out-Shape s in
    let cells : List ResultCell = cells_view c.args.self.cells.now in
    let names : c.len-2.result ≡ length (map string_bytes o.names.items) = omega (arith, length-map o.names.items string_bytes, c.len-2.ensures, o.names.ok.0) in
    let lists : c.len-3.result ≡ count_lists (lists_view o.lists.items) = omega (arith, count_lists-view o.lists.items, c.len-3.ensures, o.lists.ok.0) in
    let h : c.args.number < length o.lists.items = omega (arith, c.if-number-len.false, c.len.ensures, o.lists.ok.0) in
    list_is s (drop c.args.self.at cells) (drop c.skip-counts.result cells) (drop c.skip-inner.result cells) (drop c.end_of_lists-at.result cells) c.args.number c.count_at-count.result c.index.result.now
    (c.skip-counts.ensures ∙ ap (λ n. drop n (drop c.args.self.at cells)) names)
    (c.skip-inner.ensures ∙ ap (λ n. drop n (drop c.skip-counts.result cells)) lists)
    h c.index.ensures c.end_of_lists-at.ensures (c.count_at-count.ensures ∙ ap first_count c.skip.ensures)
