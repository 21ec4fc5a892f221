use Rattle.std.proofs.Common.{take, drop, ◌-◌}
use Rattle.dr_levels.specs.Views.{column_form}
use Rattle.dr_striper.proofs.NullLemmas.{joined-nulls, adds-same}
use Rattle.dr_striper.proofs.leaves.take_over.Goals as goal

pub returns-clause-triplets : goal.returns-clause-triplets
returns-clause-triplets c =
    adds-same c.extend_nulls.result _ _ _ _ (joined-nulls (column_form c.args.column.now).greatest (take (c.args.until - c.args.from) (drop c.args.from c.args.above.now)) c.requires.nulls) c.extend_nulls.ensures.triplets
