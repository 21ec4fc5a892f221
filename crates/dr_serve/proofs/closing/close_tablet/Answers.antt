use Rattle.std.proofs.Common.{sym, ◌∙◌}
use Rattle.dr_table.specs.Views.{table_view}
use Rattle.dr_table.specs.LeftViews.{all_left_view}
use Rattle.dr_serve.proofs.CloseLemmas.{answered_closed, can_keep, scanned_closed, where_both}
use Rattle.dr_serve.proofs.closing.close_tablet.Goals as goal

pub returns-then-has_piece-clause-closed : goal.returns-then-has_piece-clause-closed
returns-then-has_piece-clause-closed g c =
    λ next. answered_closed (table_view c.args.table.now) c.args.plan.now next.tree g.S.TableJob.is_true next.first (g.L.Link.shows c.args.link.now) next.all next.rest c.args.tablet c.args.closed.now.grown
    (all_left_view c.args.closed.now.left.items) next.place next.closed (sym next.same ∙ c.if-has_piece.true)

pub keep-requires : goal.keep-requires
keep-requires g c =
    let next = c.requires.next in
    let now = g.L.Link.shows c.outcome_of.new.link in
    can_keep (table_view c.args.table.now) c.args.plan.now next.tree g.S.TableJob.is_true next.first (g.L.Link.shows c.args.link.now) now next.all next.rest c.args.tablet c.args.closed.now.grown c.args.closed.now.grown
    (all_left_view c.args.closed.now.left.items) (all_left_view c.args.closed.now.left.items) next.place next.closed (sym next.same ∙ c.if-has_piece.false) c.requires.addable c.args.table.now.few_tablets
    c.in_ok-outcome.outcome c.in_ok-outcome.ensures.outcome

pub returns-clause-closed : goal.returns-clause-closed
returns-clause-closed g c =
    let now = g.L.Link.shows c.outcome_of.new.link in
    λ next. where_both c.keep.result c.keep.ensures.left c.keep.ensures.grown (λ e k.
    scanned_closed (table_view c.args.table.now) c.args.plan.now next.tree g.S.TableJob.is_true next.first (g.L.Link.shows c.args.link.now) now next.all next.rest c.args.tablet c.args.closed.now.grown c.keep.new.closed.grown
    (all_left_view c.args.closed.now.left.items) (all_left_view c.keep.new.closed.left.items) next.place next.closed (sym next.same ∙ c.if-has_piece.false) c.requires.addable c.args.table.now.few_tablets
    c.in_ok-outcome.outcome c.outcome_of.ensures.link c.in_ok-outcome.ensures.outcome c.in_ok-outcome.ensures.rises c.in_ok-outcome.ensures.read e k)
