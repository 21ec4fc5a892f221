use Rattle.dr_levels.specs.Dense.{values_view}
use Rattle.dr_levels.proofs.DenseLemmas.{dense_joined, nulls_join}
use Rattle.dr_levels.proofs.column.Column.extend_nulls.Goals as goal

pub invariant_of-self : goal.invariant_of-self
invariant_of-self c =
    let s = c.args.self.now in
    record { kinds = s.kinds; dense = dense_joined c.append_levels.result s.greatest s.levels.items c.append_levels.new.levels.items c.args.levels.now (values_view s.values) c.requires c.append_levels.ensures s.dense }

pub returns-clause-triplets : goal.returns-clause-triplets
returns-clause-triplets c =
    let s = c.args.self.now in
    nulls_join c.append_levels.result s.greatest s.levels.items c.append_levels.new.levels.items c.args.levels.now (values_view s.values) c.requires c.append_levels.ensures s.dense
