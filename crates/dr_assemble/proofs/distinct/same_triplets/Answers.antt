use Rattle.std.proofs.Common.{sym, ◌∙◌}
use Rattle.dr_levels.specs.Views.{triplets_view}
use Rattle.dr_assemble.proofs.PieceLemmas.{none_left}
use Rattle.dr_assemble.proofs.distinct.same_triplets.Goals as goal

pub returns : goal.returns
returns c =
    let h = none_left c.levels.result.now (triplets_view c.triplets.right_rest) c.is_empty.result c.levels.ensures c.is_empty.ensures in
    let ended = c.in_default.ensures.triplet in
    (λ b. c.triplets.invariant.1 (ended ∙ sym (h.0 b)), λ e. h.1 (sym (c.triplets.invariant.0 e) ∙ ended))
