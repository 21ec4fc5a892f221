use Rattle.std.proofs.Common.{Some, refl, sym, ap, ◌∙◌}
use Rattle.dr_group.specs.Views.{accumulator_view}
use Rattle.dr_partials.specs.Accumulators.{aggregate_of}
use Rattle.dr_within.specs.declared.within_values.ItemValues.{ItemValues}
use Rattle.dr_within.proofs.FramingLemmas.{on_ok}
use Rattle.dr_within.proofs.WithinLemmas.{joined_at}
use Rattle.dr_within.proofs.within_values.WithinValues.join.Goals as goal

pub returns : goal.returns
returns c = on_ok c.join_into.result _ _ (λ call items g t.
    let z = accumulator_view c.args.more.now in
    let e = c.index_mut-entry.result.now in
    let new : ItemValues = record { item = e.item; gathered = c.join_into.new.mine } in
    let same = c.in_ok-place.ensures.same items (g ∙ ap Some (sym c.fold_of.ensures)) t in
    joined_at items c.args.item (aggregate_of z) z c.args.self.now.entries.items c.place_of.new.self.entries.items _ c.in_ok-place.place e new same g refl
    c.in_ok-place.ensures.there c.index_mut-entry.ensures.value refl call refl) c.join_into.ensures
