use Rattle.std.proofs.Common.{◌≡◌, ℕ, ap, ap₂, ◌∙◌, ◌++◌, ◌-◌, length, take, drop}
use Rattle.dr_levels.specs.declared.column.Column.{Column}
use Rattle.dr_levels.specs.Views.{column_view}
use Rattle.dr_striper.specs.Added.{grown}
use Rattle.dr_striper.specs.Views.{nulls}
use Rattle.dr_striper.proofs.NullLemmas.{nulls-between}
use Rattle.dr_striper.proofs.BackLemmas.{added_on_ok}
use Rattle.dr_striper.proofs.branch.LeafGrown.push_first.Goals as goal

pub returns-clause-column : goal.returns-clause-column
returns-clause-column c =
    let s = c.args.self.now in
    let u : ℕ = length c.args.above.now - 1 in
    let e : column_view c.take_over.new.column ≡ grown s.seen (column_view s.column) (nulls (take u c.args.above.now)) =
    c.in_ok-take_over.ensures.triplets
    ∙ ap₂ (λ (v : Column) (k : ℕ). column_view v ++ nulls (take (u - k) (drop k c.args.above.now))) c.mark.ensures.column c.mark.ensures.same
    ∙ ap (λ ts. column_view s.column ++ ts) (nulls-between s.seen u c.args.above.now c.requires.seen) in
    added_on_ok c.push.result _ _ _ _ c.push.ensures.triplet e
