use Rattle.dr_partials.proofs.TreeLemmas.{fan_has_all_tablets, fan_is_kept}
use Rattle.dr_partials.proofs.tree_laws.fan_has_all_tablets.Goals as goal

pub returns : goal.returns
returns c = record { tablets = fan_has_all_tablets; fan = fan_is_kept }
