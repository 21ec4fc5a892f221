use Rattle.dr_tree.proofs.PlaceLemmas.{any_order_fills_all}
use Rattle.dr_tree.proofs.laws.any_order_fills_all.Goals as goal

pub returns : goal.returns
returns c = any_order_fills_all
