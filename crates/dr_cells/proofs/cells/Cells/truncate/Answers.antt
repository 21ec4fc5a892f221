use Rattle.std.proofs.Common.{◌≡◌, true, ap, ◌∙◌, sym, subst, List}
use Rattle.std.specs.List.{list_all}
use Rattle.std.proofs.lemmas.List.{take-map}
use Rattle.dr_levels.proofs.TextLemmas.{all_taken}
use Rattle.dr_cells.specs.declared.cell.Cell.{Cell}
use Rattle.dr_cells.specs.Held.{cell_view, is_cell, cells_in}
use Rattle.dr_cells.proofs.cells.Cells.truncate.Goals as goal

pub invariant_of-self : goal.invariant_of-self
invariant_of-self c =
    let s = c.args.self.now in
    record { texts = subst (λ (cs : List Cell). list_all (is_cell s.bytes.items) cs ≡ true) (sym c.truncate.ensures.items) (all_taken (is_cell s.bytes.items) c.args.count s.cells.items s.texts) }

pub returns : goal.returns
returns c =
    let s = c.args.self.now in
    ap (cells_in s.bytes.items) c.truncate.ensures.items ∙ sym (take-map (cell_view s.bytes.items) c.args.count s.cells.items)
