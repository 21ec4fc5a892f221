use Rattle.std.proofs.Common.{◌≡◌, ◌<◌, ◌∙◌, sym, true, false, arith}
use Rattle.dr_levels.specs.Views.{triplets_view}
use Rattle.dr_agreement.proofs.OutlinedLemmas.{same_outlines, other_outlines}
use Rattle.dr_agreement.proofs.outlines.Outlines.agree_on.Goals as goal

pub returns-clause-same : goal.returns-clause-same
returns-clause-same c = λ h.
    let f = c.args.front in
    let t : c.same_outline.result ≡ true = cc in
    let d : f.defined < 256 = omega arith in
    same_outlines f.repeated f.defined c.levels.result.now c.levels-2.result.now (triplets_view c.args.one) (triplets_view c.args.other) d c.levels.ensures c.levels-2.ensures
    (sym c.in_ok-put_outline.ensures ∙ sym c.deref.ensures.value ∙ c.same_outline.ensures.same t ∙ c.deref-2.ensures.value ∙ c.in_ok-put_outline-2.ensures)

pub returns-clause-differ : goal.returns-clause-differ
returns-clause-differ c = λ h e.
    let f = c.args.front in
    let t : c.same_outline.result ≡ false = cc in
    c.same_outline.ensures.differ t
    (c.deref.ensures.value ∙ c.in_ok-put_outline.ensures
    ∙ other_outlines f.repeated f.defined c.levels.result.now c.levels-2.result.now (triplets_view c.args.one) (triplets_view c.args.other) c.levels.ensures c.levels-2.ensures e
    ∙ sym c.in_ok-put_outline-2.ensures ∙ sym c.deref-2.ensures.value)
