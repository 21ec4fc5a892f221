use Rattle.std.proofs.Common.{rules, ◌≡◌, ◌<◌, ℕ, length, get_or, slice_set, sym, ap, subst, ◌∙◌}
use Rattle.dr_levels.specs.Views.{triplet_view, triplets_view}
use Rattle.dr_walk.specs.Checking.{rest_at, rest_behind}
use Rattle.dr_walk.proofs.CheckingLemmas.{rest_here, one_taken}
use Rattle.dr_walk.proofs.taking.take_next.Goals as goal

pub returns-clause-rests : goal.returns-clause-rests
returns-clause-rests c =
    let rests = c.args.rests.now in
    let k = c.in_ok-leaf.field-0 in
    let rest = c.index-rests-leaf.result in
    let within : k < length rests = search rules in
    let found : get_or rests k rest ≡ rest = search rules in
    let next = rest_here rests k rest within ∙ ap triplets_view found ∙ c.in_ok-next.ensures.triplet in
    subst (λ o. (i : ℕ) → rest_at (slice_set rests k c.next.new.self) i ≡ rest_behind o i (rest_at rests i)) (sym c.in_ok-leaf.was)
    (one_taken rests k c.next.new.self (triplet_view c.in_ok-next.next) within next)
