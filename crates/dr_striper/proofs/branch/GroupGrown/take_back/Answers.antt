use Rattle.std.proofs.Common.{sym, ap, ◌∙◌}
use Rattle.dr_striper.specs.Views.{nulls}
use Rattle.dr_striper.proofs.PassingLemmas.{nulls-cut}
use Rattle.dr_striper.proofs.BackLemmas.{own_in}
use Rattle.dr_striper.proofs.branch.GroupGrown.take_back.Goals as goal

pub returns-then-self-kept-clause-levels : goal.returns-then-self-kept-clause-levels
returns-then-self-kept-clause-levels c =
    let s = c.args.self.now in
    ap nulls c.truncate.ensures.items ∙ nulls-cut s.was_long s.levels.items ∙ sym (own_in c.args.kept s.seen s.was_long (nulls s.levels.items) c.if-self-kept.true)
