use Rattle.std.proofs.Common.{refl}
use Rattle.std.proofs.Math.ListN.{set}
use Rattle.std.proofs.lemmas.List.{map-set}
use Rattle.dr_cells.specs.Held.{cell_view}
use Rattle.dr_cells.proofs.CellLemmas.{set_plain}
use Rattle.dr_cells.proofs.cells.Cells.set_cell.Goals as goal

pub invariant_of-self : goal.invariant_of-self
invariant_of-self c =
    let s = c.args.self.now in
    record { texts = set_plain s.bytes.items s.cells.items (set s.cells.items c.args.number c.args.cell) c.args.number c.args.cell refl c.requires.text s.texts }

pub returns : goal.returns
returns c =
    let s = c.args.self.now in
    map-set (cell_view s.bytes.items) s.cells.items c.args.number c.args.cell
