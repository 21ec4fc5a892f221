use Rattle.std.proofs.Common.{ap, sym, ◌∙◌, arith}
use Rattle.dr_levels.specs.Views.{triplets_view, triplets_form}
use Rattle.dr_write.proofs.CuttingLemmas.{enough_numbers, is_text, not_text}
use Rattle.dr_write.proofs.cutting.enough.Goals as goal

pub returns-in-Bool : goal.returns-in-Bool
returns-in-Bool c = record {
  full = enough_numbers (triplets_form c.args.triplets).kind (triplets_view c.args.triplets) (ap is_text (sym c.kind.ensures) ∙ not_text c.kind.result c.in-Bool.is);
  some = omega arith;
}
