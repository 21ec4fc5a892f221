use Rattle.std.proofs.Common.{arith}
use Rattle.dr_cells.specs.Views.{cells_view}
use Rattle.dr_within.specs.Late.{cell_values, all_taken}
use Rattle.dr_within.proofs.LateLemmas.{puts_count, taken_count}
use Rattle.dr_within.proofs.late.LateRows.len.Goals as goal

pub returns : goal.returns
returns c =
    let r = c.args.self.now in
    let V = cell_values (cells_view r.taken) in
    omega (
      arith,
      c.len.ensures,
      r.aggregates.ok.0,
      puts_count r.width (cell_values (cells_view r.cells)) (all_taken r.aggregates.items V),
      taken_count r.aggregates.items V,
    )
