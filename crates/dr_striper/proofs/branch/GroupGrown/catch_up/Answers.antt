use Rattle.std.proofs.Common.{◌∙◌, ap, ◌++◌, take, drop, ◌-◌}
use Rattle.std.proofs.lemmas.List.{map-append}
use Rattle.dr_striper.specs.Views.{null_of, nulls}
use Rattle.dr_striper.proofs.NullLemmas.{nulls-between}
use Rattle.dr_striper.proofs.branch.GroupGrown.catch_up.Goals as goal

pub returns-clause-levels : goal.returns-clause-levels
returns-clause-levels c =
    let s = c.args.self.now in
    ap nulls c.in_ok-take_over.ensures.levels
    ∙ map-append null_of s.levels.items (take (c.args.until - s.seen) (drop s.seen c.args.above.now))
    ∙ ap (λ ts. nulls s.levels.items ++ ts) (nulls-between s.seen c.args.until c.args.above.now c.requires.seen)
