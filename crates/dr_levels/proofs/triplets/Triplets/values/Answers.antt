use Rattle.std.proofs.Common.{◌≤◌, ◌∙◌, ap, sym, arith, take, drop, length}
use Rattle.std.proofs.lemmas.List.{length-drop}
use Rattle.dr_levels.specs.Dense.{values_view, present}
use Rattle.dr_levels.proofs.DenseLemmas.{present-joined}
use Rattle.dr_levels.proofs.triplets.Triplets.values.Goals as goal

pub returns-clause-values : goal.returns-clause-values
returns-clause-values c =
    let s = c.args.self in
    let vs = values_view s.column.now.values in
    let h : present s.column.now.greatest s.levels.now ≤ length (drop s.value vs) = omega (arith, s.there, length-drop s.value vs) in
    c.range.ensures.values ∙ ap (λ n. take n (drop s.value vs)) s.counted ∙ sym (present-joined s.column.now.greatest s.levels.now (drop s.value vs) h)
