use Rattle.std.proofs.Common.{sym, subst}
use Rattle.dr_plan.specs.Views.{fold_view}
use Rattle.dr_within.specs.WithinValues.{SameValues}
use Rattle.dr_within.specs.declared.within_values.ItemValues.{ItemValues}
use Rattle.dr_within.proofs.WithinLemmas.{same_pushed}
use Rattle.dr_within.proofs.within_values.WithinValues.place_of.Goals as goal

pub returns-in_ok-push-in-None-clause-same : goal.returns-in_ok-push-in-None-clause-same
returns-in_ok-push-in-None-clause-same c = λ items a t.
    let es = c.args.self.now.entries.items in
    let e : ItemValues = record { item = c.args.item; gathered = c.new-gathered.result } in
    subst (SameValues items es) (sym c.in_ok-push-in-None.ensures.items) (same_pushed items es e (fold_view c.args.fold) c.new-gathered.ensures a t)
