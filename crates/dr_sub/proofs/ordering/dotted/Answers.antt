use Rattle.std.proofs.Common.{◌∙◌}
use Rattle.dr_resolve.proofs.ItemLemmas.{joined_names}
use Rattle.dr_sub.proofs.ordering.dotted.Goals as goal

pub returns : goal.returns
returns c = c.in_ok-join.ensures.ok ∙ joined_names c.args.names.now
