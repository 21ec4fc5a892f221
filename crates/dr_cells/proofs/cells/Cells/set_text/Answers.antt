use Rattle.std.proofs.Common.{refl, rules}
use Rattle.std.proofs.Math.ListN.{set}
use Rattle.dr_levels.specs.declared.text_place.TextPlace.{TextPlace}
use Rattle.dr_cells.specs.declared.cell.Cell.{Cell}
use Rattle.dr_cells.proofs.CellLemmas.{set_cells, set_seen}
use Rattle.dr_cells.proofs.cells.Cells.set_text.Goals as goal

pub invariant_of-self-2 : goal.invariant_of-self-2
invariant_of-self-2 c =
    let s = c.args.self.now in
    let p : TextPlace = record { start = c.in-Ok-Ok.start; length = c.in-Ok-Ok.length } in
    record {
      texts = set_cells s.bytes.items c.args.text.now c.extend_from_slice.new.self.items s.cells.items (set s.cells.items c.args.number (Cell.Text p)) c.args.number p refl
          (search rules) (search rules) (search rules) c.utf8.text s.texts;
    }

pub returns : goal.returns
returns c =
    let s = c.args.self.now in
    let p : TextPlace = record { start = c.in-Ok-Ok.start; length = c.in-Ok-Ok.length } in
    set_seen s.bytes.items c.args.text.now c.extend_from_slice.new.self.items s.cells.items (set s.cells.items c.args.number (Cell.Text p)) c.args.number p refl (search rules) (search rules) (search rules) s.texts
