use Rattle.dr_levels.specs.Dense.{values_view}
use Rattle.dr_levels.proofs.DenseLemmas.{dense_after, joined_after}
use Rattle.dr_levels.proofs.column.Column.push_nulls.Goals as goal

pub invariant_of-self : goal.invariant_of-self
invariant_of-self c =
    let s = c.args.self.now in
    let l = c.args.levels in
    record { kinds = s.kinds; dense = dense_after c.repeat_levels.result s.greatest l.repetition l.definition c.args.count s.levels.items c.repeat_levels.new.levels.items (values_view s.values) c.requires c.repeat_levels.ensures s.dense }

pub returns-clause-triplets : goal.returns-clause-triplets
returns-clause-triplets c =
    let s = c.args.self.now in
    let l = c.args.levels in
    joined_after c.repeat_levels.result s.greatest l.repetition l.definition c.args.count s.levels.items c.repeat_levels.new.levels.items (values_view s.values) c.requires c.repeat_levels.ensures s.dense
