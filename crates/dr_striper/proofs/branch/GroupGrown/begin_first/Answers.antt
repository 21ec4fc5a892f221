use Rattle.std.proofs.Common.{◌≡◌, ℕ, ap, ap₂, ◌∙◌, ◌++◌, ◌-◌, length, take, drop}
use Rattle.std.specs.Prelude.{Vec}
use Rattle.std.specs.declared.alloc.Global.{Global}
use Rattle.std.proofs.lemmas.List.{map-append}
use Rattle.dr_levels.specs.declared.triplet.Levels.{Levels}
use Rattle.dr_striper.specs.Added.{grown}
use Rattle.dr_striper.specs.Views.{null_of, nulls}
use Rattle.dr_striper.proofs.NullLemmas.{nulls-between}
use Rattle.dr_striper.proofs.BackLemmas.{added_on_ok}
use Rattle.dr_striper.proofs.branch.GroupGrown.begin_first.Goals as goal

pub returns-clause-levels : goal.returns-clause-levels
returns-clause-levels c =
    let s = c.args.self.now in
    let u : ℕ = length c.args.above.now - 1 in
    let n : ℕ = c.mark.new.self.seen in
    let e : nulls c.take_over.new.levels.items ≡ grown s.seen (nulls s.levels.items) (nulls (take u c.args.above.now)) =
    ap nulls c.in_ok-take_over.ensures.levels
    ∙ map-append null_of c.mark.new.self.levels.items (take (u - n) (drop n c.args.above.now))
    ∙ ap₂ (λ (v : Vec Levels Global) (k : ℕ). nulls v.items ++ nulls (take (u - k) (drop k c.args.above.now))) c.mark.ensures.levels c.mark.ensures.same
    ∙ ap (λ ts. nulls s.levels.items ++ ts) (nulls-between s.seen u c.args.above.now c.requires.seen) in
    added_on_ok c.push_pair.result _ _ _ _ c.push_pair.ensures.levels e
