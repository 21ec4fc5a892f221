use Rattle.std.proofs.Common.{◌∙◌, sym, ap}
use Rattle.dr_levels.specs.Columns.{takes}
use Rattle.dr_levels.specs.Views.{LeafForm, triplet_view, triplets_view}
use Rattle.dr_dump.proofs.AppendLemmas.{first_of_column}
use Rattle.dr_dump.proofs.append.append.Goals as goal

pub push-requires : goal.push-requires
push-requires c =
    ap (λ (f : LeafForm). takes f (triplet_view c.in-Some.triplet)) (sym c.triplets.invariant.same)
    ∙ first_of_column c.triplets.rest (triplet_view c.in-Some.triplet) (triplets_view c.next.new.self) c.in-Some.ensures.triplet
