use Rattle.std.proofs.Common.{◌<◌, ◌∙◌, ap, sym, arith, length, drop, ◌∷◌, ◌+◌}
use Rattle.std.proofs.lemmas.List.{length-map}
use Rattle.dr_levels.proofs.TextLemmas.{map_there, all_there}
use Rattle.dr_cells.specs.Held.{cell_view, is_cell}
use Rattle.dr_cells.specs.Results.{ResultCell}
use Rattle.dr_cells.specs.Views.{cells_view}
use Rattle.dr_cells.proofs.cells.Cells.get.Goals as goal

pub lend-requires : goal.lend-requires
lend-requires c =
    let s = c.args.self.now in
    let k : c.args.number < length s.cells.items = omega (arith, c.requires, length-map s.cells.items (cell_view s.bytes.items)) in
    ap (λ bs. is_cell bs c.index.result.now) c.deref.ensures.value ∙ all_there (is_cell s.bytes.items) s.cells.items c.args.number c.index.result.now k c.index.ensures s.texts

pub returns : goal.returns
returns c =
    let s = c.args.self.now in
    let k : c.args.number < length s.cells.items = omega (arith, c.requires, length-map s.cells.items (cell_view s.bytes.items)) in
    map_there (cell_view s.bytes.items) s.cells.items c.args.number c.index.result.now k c.index.ensures
    ∙ ap (λ (x : ResultCell). x ∷ drop (c.args.number + 1) (cells_view s)) (sym (c.lend.ensures ∙ ap (λ bs. cell_view bs c.index.result.now) c.deref.ensures.value))
