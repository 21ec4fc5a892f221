use Rattle.std.proofs.Common.{◌∙◌, ap, ◌++◌}
use Rattle.dr_levels.specs.Views.{column_view}
use Rattle.dr_striper.proofs.NullLemmas.{nulls-between}
use Rattle.dr_striper.proofs.branch.LeafGrown.catch_up.Goals as goal

pub returns-clause-column : goal.returns-clause-column
returns-clause-column c =
    c.in_ok-take_over.ensures.triplets ∙ ap (λ ts. column_view c.args.self.now.column ++ ts) (nulls-between c.args.self.now.seen c.args.until c.args.above.now c.requires.seen)
