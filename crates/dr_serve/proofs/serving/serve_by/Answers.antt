use Rattle.std.proofs.Common.{sym, subst}
use Rattle.dr_table.specs.Views.{table_view}
use Rattle.dr_tree.specs.Views.{tree_view}
use Rattle.dr_serve.specs.Served.{IsHistoryOf}
use Rattle.dr_serve.specs.Working.{table_job}
use Rattle.dr_serve.proofs.FoundLemmas.{it_grows_on, pieces_are_addable}
use Rattle.dr_serve.proofs.ServingLemmas.{each_is_taken, true_of_some, lefts_are_fewer, it_grows, serves_as, left_is}
use Rattle.dr_serve.proofs.serving.serve_by.Goals as goal

pub closed-requires-clause-truth : goal.closed-requires-clause-truth
closed-requires-clause-truth g c κs within = λ i l h. each_is_taken g.L.Link.shows (table_view c.args.table.now) c.args.plan.now c.args.links.now i l h

pub closed-requires-clause-addable : goal.closed-requires-clause-addable
closed-requires-clause-addable g c κs within = λ t f h. pieces_are_addable (table_view c.args.table.now) c.args.plan.now _ c.requires.planned t f h

pub closed-requires-clause-grown : goal.closed-requires-clause-grown
closed-requires-clause-grown g c κs within = λ grown answered. (λ h. h, λ h. h)

pub closed-requires-clause-grows_on : goal.closed-requires-clause-grows_on
closed-requires-clause-grows_on g c κs within =
    it_grows_on (table_view c.args.table.now) c.args.plan.now (tree_view c.args.tree.now) _ c.args.table.now.few_tablets (λ t f h. pieces_are_addable (table_view c.args.table.now) c.args.plan.now _ c.requires.planned t f h)
    (λ t f h. true_of_some (table_view c.args.table.now) c.args.plan.now _ t f c.requires.planned h)

pub conclude-requires-clause-left : goal.conclude-requires-clause-left
conclude-requires-clause-left g c κs within = lefts_are_fewer g.L.Link.shows (table_view c.args.table.now) c.args.plan.now (tree_view c.args.tree.now) c.args.links.now c.closed.new.links c.in_ok-ended.ended.closed.grown c.in_ok-ended.ended.closed.left.items
    c.requires.some c.closed.ensures.count c.in_ok-ended.ensures.closes

pub conclude-requires-clause-grown : goal.conclude-requires-clause-grown
conclude-requires-clause-grown g c κs within = it_grows g.L.Link.shows (table_view c.args.table.now) c.args.plan.now (tree_view c.args.tree.now) c.args.links.now c.closed.new.links c.in_ok-ended.ended.closed.grown c.in_ok-ended.ended.closed.left.items
    c.requires.some c.closed.ensures.count c.in_ok-ended.ensures.closes

pub returns-clause-serves : goal.returns-clause-serves
returns-clause-serves g c =
    let has = c.in_ok-outcome.ensures in
    λ q is. serves_as g.L.Link.shows (table_view c.args.table.now) c.args.plan.now (tree_view c.args.tree.now) c.args.links.now c.closed.new.links c.in_ok-ended.ended.closed.grown c.in_ok-ended.ended.closed.left.items
    c.requires.some c.closed.ensures.count c.in_ok-ended.ensures.closes q is c.requires.tree c.args.least
    c.in_ok-outcome.outcome has.none has.finished has.finished_plan has.most has.most_plan has.most_left has.most_some has.share has.left has.some has.short has.all

pub returns-clause-history : goal.returns-clause-history
returns-clause-history g c =
    let has = c.in_ok-outcome.ensures in
    subst (IsHistoryOf (table_job (table_view c.args.table.now) c.args.lag) c.in_ok-ended.ended.history.items) (sym (left_is c.in_ok-ended.ended.closed.left.items c.in_ok-outcome.outcome has.none has.most_left has.left))
    c.in_ok-ended.ensures.history
