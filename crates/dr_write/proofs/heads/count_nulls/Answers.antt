use Rattle.std.proofs.Common.{◌∙◌, ◌-◌, ap₂, arith}
use Rattle.dr_levels.specs.Lent.{lent_values}
use Rattle.dr_levels.specs.Views.{triplets_view}
use Rattle.dr_write.proofs.HeadLemmas.{values_within, nulls_counted}
use Rattle.dr_write.proofs.heads.count_nulls.Goals as goal

pub overflow_sub-result : goal.overflow_sub-result
overflow_sub-result c = omega (arith, values_within (triplets_view c.args.triplets) (lent_values c.values.result) c.values.ensures.values, c.len.ensures, c.count_values.ensures)

pub returns : goal.returns
returns c = ap₂ (λ m n. m - n) c.len.ensures c.count_values.ensures ∙ nulls_counted (triplets_view c.args.triplets) (lent_values c.values.result) c.values.ensures.values
