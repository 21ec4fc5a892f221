use Rattle.std.proofs.Common.{◌∙◌, ◌<◌, arith, drop, length}
use Rattle.dr_cells.specs.Views.{cells_view}
use Rattle.dr_cells.specs.declared.shape.Shape as shapes
use Rattle.dr_sub.proofs.PlacedLemmas.{value_is}
use Rattle.dr_sub.proofs.placed.Spot.instances_at.Goals as goal

pub returns-then-place-values : goal.returns-then-place-values
returns-then-place-values c =
    let s = c.args.self.shape.now in
    let o = shapes.out-Shape s in
    let cells = cells_view c.args.self.cells.now in
    let h : c.args.place < length o.names.items = omega (arith, c.if-place-values.true, c.len-values.ensures, o.names.ok.0) in
    c.value_at.ensures ∙ value_is s (drop c.args.self.at cells) (drop c.skip.result cells) c.args.place h c.skip.ensures
