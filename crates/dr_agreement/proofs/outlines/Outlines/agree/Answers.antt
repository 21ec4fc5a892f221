use Rattle.std.proofs.Common.{◌≡◌, ◌<◌, ◌∙◌, sym, ap, length, Ok, get_or, map}
use Rattle.dr_beside.specs.Outlines.{outline}
use Rattle.dr_beside.specs.Neighbours.{column_at}
use Rattle.dr_levels.specs.Views.{triplets_view}
use Rattle.dr_agreement.specs.declared.outlines.Neighbours.{Neighbours}
use Rattle.dr_agreement.specs.Outlines.{neighbours_view}
use Rattle.dr_agreement.proofs.OutlinedLemmas.{agree_more, columns_at, neighbours_there, within_at}
use Rattle.dr_agreement.proofs.outlines.Outlines.agree.Goals as goal

pub returns-then-not-branch-clause-differ : goal.returns-then-not-branch-clause-differ
returns-then-not-branch-clause-differ c = λ h.
    let d : Neighbours = record { leaf = 0; earlier = 0; front = record { steps = 0; repeated = 0; defined = 0 } } in
    let i = c.neighbours.pair-index in
    let n = get_or c.args.neighbours.now i d in
    let C = map triplets_view c.args.columns.now in
    let w : (n.leaf < length c.args.columns.now) × (n.earlier < length c.args.columns.now) = within_at (length c.args.columns.now) c.args.neighbours.now i d c.neighbours-test.true c.requires in
    let one : column_at C n.leaf ≡ triplets_view c.index-columns-pair.result = columns_at c.args.columns.now n.leaf c.index-columns-pair.result w.0 c.index-columns-pair.is in
    let other : column_at C n.earlier ≡ triplets_view c.index-columns-pair-in-neighbours.result = columns_at c.args.columns.now n.earlier c.index-columns-pair-in-neighbours.result w.1 c.index-columns-pair-in-neighbours.is in (
      i,
      neighbours_view n,
      neighbours_there c.args.neighbours.now i d c.neighbours-test.true,
      λ e. c.agree_on.ensures.differ (c.in_ok-agree_on.was ∙ ap Ok c.if-not-branch.true)
          (ap (outline n.front.repeated n.front.defined) (sym one) ∙ e ∙ ap (outline n.front.repeated n.front.defined) other),
    )

pub neighbours-preserved : goal.neighbours-preserved
neighbours-preserved c =
    let d : Neighbours = record { leaf = 0; earlier = 0; front = record { steps = 0; repeated = 0; defined = 0 } } in
    let i = c.neighbours.pair-index in
    let n = get_or c.args.neighbours.now i d in
    let C = map triplets_view c.args.columns.now in
    let w : (n.leaf < length c.args.columns.now) × (n.earlier < length c.args.columns.now) = within_at (length c.args.columns.now) c.args.neighbours.now i d c.neighbours-test.true c.requires in
    let one : column_at C n.leaf ≡ triplets_view c.index-columns-pair.result = columns_at c.args.columns.now n.leaf c.index-columns-pair.result w.0 c.index-columns-pair.is in
    let other : column_at C n.earlier ≡ triplets_view c.index-columns-pair-in-neighbours.result = columns_at c.args.columns.now n.earlier c.index-columns-pair-in-neighbours.result w.1 c.index-columns-pair-in-neighbours.is in
    agree_more C c.args.neighbours.now i d c.neighbours-test.true
    (ap (outline n.front.repeated n.front.defined) one ∙ c.agree_on.ensures.same (c.in_ok-agree_on.was ∙ ap Ok c.if-not-branch.false) ∙ ap (outline n.front.repeated n.front.defined) (sym other))
    c.neighbours.invariant
