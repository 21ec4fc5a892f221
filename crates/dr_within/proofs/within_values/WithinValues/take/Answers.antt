use Rattle.std.proofs.Common.{Some, refl, ap, ◌∙◌}
use Rattle.dr_levels.specs.Views.{lent_value}
use Rattle.dr_meaning.specs.Query.{Aggregate}
use Rattle.dr_group.specs.Views.{accumulator_view}
use Rattle.dr_partials.specs.Accumulators.{accumulator_of_one, join}
use Rattle.dr_partials.proofs.AccumulatorLemmas.{cell_aggregate}
use Rattle.dr_plan.specs.Views.{fold_view}
use Rattle.dr_within.specs.declared.within_values.ItemValues.{ItemValues}
use Rattle.dr_within.proofs.WithinLemmas.{becomes_then, joined_at}
use Rattle.dr_within.proofs.within_values.WithinValues.take.Goals as goal

pub returns : goal.returns
returns c = becomes_then c.take.result _ _ _ _ (λ is items g t.
    let a = fold_view c.args.fold in
    let v = lent_value c.args.value in
    let e = c.index_mut-entry.result.now in
    let new : ItemValues = record { item = e.item; gathered = c.take.new.self } in
    let same = c.in_ok-place.ensures.same items g t in
    let typed = cell_aggregate a (Some v) in
    joined_at items c.args.item a (accumulator_of_one a v) c.args.self.now.entries.items c.place_of.new.self.entries.items _ c.in_ok-place.place e new same g typed
    c.in_ok-place.ensures.there c.index_mut-entry.ensures.value refl (λ h. is ∙ ap (λ (b : Aggregate). join (accumulator_view e.gathered) (accumulator_of_one b v)) (h ∙ typed)) refl) c.take.ensures
