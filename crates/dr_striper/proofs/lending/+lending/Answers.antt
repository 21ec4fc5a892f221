use Rattle.std.proofs.Common.{◌≡◌, [], map, get_or, ap, ◌∙◌, arith}
use Rattle.std.proofs.lemmas.List.{length-map}
use Rattle.dr_nested.specs.Views.{rep_view}
use Rattle.dr_nested.specs.PathView.{step_view}
use Rattle.dr_striper.specs.Added.{grown}
use Rattle.dr_striper.specs.Added.{column_in}
use Rattle.dr_striper.specs.Views.{null_of, nulls, shape_view, shapes_view, twig_view, twigs_view}
use Rattle.dr_striper.proofs.EndLemmas.{no_items, lent_rest}
use Rattle.dr_striper.proofs.LentLemmas.{lend_some, lend_place, lend_step, lead_step, column_step, lends_same}
use Rattle.dr_striper.proofs.lending.+lending.Goals as goal

pub lend_inner-lend_path-requires : goal.lend_inner-lend_path-requires
lend_inner-lend_path-requires t c =
    let own = nulls c.args.group.now.levels.items in
    let eo : own ≡ [] = no_items own (omega (arith, c.if-len-eq0.true, c.len.ensures, length-map c.args.group.now.levels.items null_of)) in (
      omega (arith, c.decreases),
      (
        c.requires.lends.0,
        lends_same (map step_view c.args.rest.now) c.requires.lends.0 (grown c.args.group.now.seen own (nulls c.args.above.now)) (nulls c.behind.result.now) (shapes_view c.args.inner.now) (twigs_view c.args.inner.now)
            (lent_rest c.args.group.now.seen c.args.above.now c.behind.result.now own eo c.behind.ensures) c.requires.lends.1,
      ),
    )

pub lend_inner-returns-then-len-eq0-clause-triplets :
    goal.lend_inner-returns-then-len-eq0-clause-triplets
lend_inner-returns-then-len-eq0-clause-triplets t c =
    let own = nulls c.args.group.now.levels.items in
    let eo : own ≡ [] = no_items own (omega (arith, c.if-len-eq0.true, c.len.ensures, length-map c.args.group.now.levels.items null_of)) in
    c.lend_path.ensures.triplets ∙ ap (λ ts. column_in (map step_view c.args.rest.now) ts (twigs_view c.args.inner.now)) (lent_rest c.args.group.now.seen c.args.above.now c.behind.result.now own eo c.behind.ensures)

pub lend_path-branch_at-requires : goal.lend_path-branch_at-requires
lend_path-branch_at-requires t c =
    lend_place c.args.steps.now _ c.requires.lends.0 (nulls c.args.above.now) c.args.branches.now (twigs_view c.args.branches.now) c.requires.lends.1

pub lend_path-lend_one-requires : goal.lend_path-lend_one-requires
lend_path-lend_one-requires t c = (
  omega (arith, c.behind_first.ensures.shorter),
  (
    rep_view (get_or c.args.steps.now 0 _).rep,
    c.requires.lends.0,
    lend_step c.args.steps.now c.behind_first.result.now _ c.requires.lends.0 (nulls c.args.above.now) (shapes_view c.args.branches.now) (twigs_view c.args.branches.now) (shape_view c.branch_at.result.now) (twig_view c.branch_at.result.now)
        c.behind_first.ensures.rest c.branch_at.ensures.shape c.branch_at.ensures.twig c.requires.lends.1,
  ),
)

pub lend_path-returns-clause-triplets : goal.lend_path-returns-clause-triplets
lend_path-returns-clause-triplets t c =
    c.lend_one.ensures.triplets ∙ column_step c.args.steps.now c.behind_first.result.now _ (nulls c.args.above.now) (twigs_view c.args.branches.now) (twig_view c.branch_at.result.now)
    (lend_some c.args.steps.now c.requires.lends.0 (nulls c.args.above.now) (shapes_view c.args.branches.now) (twigs_view c.args.branches.now) c.requires.lends.1) c.behind_first.ensures.rest c.branch_at.ensures.twig

pub lend_path-returns-clause-form : goal.lend_path-returns-clause-form
lend_path-returns-clause-form t c f l =
    c.lend_one.ensures.form _ f (lead_step c.args.steps.now c.behind_first.result.now _ f (shapes_view c.args.branches.now) (shape_view c.branch_at.result.now) c.behind_first.ensures.rest c.branch_at.ensures.shape l)
