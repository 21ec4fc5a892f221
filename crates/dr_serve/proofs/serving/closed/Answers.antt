use Rattle.std.proofs.Common.{◌≡◌, Option, true, sym, subst}
use Rattle.dr_dispatch.specs.Job.{Job}
use Rattle.dr_dispatch.specs.History.{is_history}
use Rattle.dr_outside.specs.Link.{Files}
use Rattle.dr_table.specs.Views.{table_view}
use Rattle.dr_table.specs.LeftViews.{all_left_view}
use Rattle.dr_tree.specs.Views.{tree_view}
use Rattle.dr_serve.specs.Working.{TakesFrom, table_job}
use Rattle.dr_serve.proofs.ServingLemmas.{first_worked, closed_after, history_is}
use Rattle.dr_serve.proofs.serving.closed.Goals as goal

pub served-requires-clause-grown : goal.served-requires-clause-grown
served-requires-clause-grown g c κs within = (c.requires.grown c.in_ok-none.none.grown c.in_ok-none.none.has_piece.items).1 c.in_ok-none.ensures.answered

pub close-requires-clause-truth : goal.close-requires-clause-truth
close-requires-clause-truth g c =
    let first = c.index-links-0.result in
    let worked = c.served.ensures.links 0 first c.requires.some in
    subst (λ (x : Option Files). TakesFrom (table_view c.args.table.now) c.args.plan.now g.S.TableJob.is_true x) (sym worked.same) (c.requires.truth 0 first c.requires.some)

pub close-requires-clause-found : goal.close-requires-clause-found
close-requires-clause-found g c =
    let found = (c.requires.grown c.in_ok-heard.heard.answered.grown c.in_ok-heard.heard.answered.has_piece.items).0 c.in_ok-heard.ensures.grown in (tree_view c.args.tree.now, found.0, found.1, found.2)

pub returns-clause-closes : goal.returns-clause-closes
returns-clause-closes g c =
    let found = (c.requires.grown c.in_ok-heard.heard.answered.grown c.in_ok-heard.heard.answered.has_piece.items).0 c.in_ok-heard.ensures.grown in
    let closed = c.in_ok-closed.closed in
    λ l. closed_after g.L.Link.shows (table_view c.args.table.now) c.args.plan.now (tree_view c.args.tree.now) g.S.TableJob.is_true c.args.links.now c.served.new.links c.index-links-0.result c.close.new.link l found.0 closed.grown
    (all_left_view closed.left.items) c.requires.some c.served.ensures.count c.served.ensures.links (c.in_ok-closed.ensures.closes (tree_view c.args.tree.now) found.0 found.1 found.2) c.in_ok-closed.ensures.rises
    c.in_ok-closed.ensures.read

pub returns-clause-history : goal.returns-clause-history
returns-clause-history g c =
    let found = (c.requires.grown c.in_ok-heard.heard.answered.grown c.in_ok-heard.heard.answered.has_piece.items).0 c.in_ok-heard.ensures.grown in
    let closed = c.in_ok-closed.closed in
    history_is (table_view c.args.table.now) c.args.plan.now (tree_view c.args.tree.now) g.S.TableJob.is_true _ (table_job (table_view c.args.table.now) c.args.lag) c.in_ok-heard.heard.history.items
    c.in_ok-heard.heard.answered.has_piece.items found.0 closed.grown (all_left_view closed.left.items)
    (subst (λ (j : Job). is_history j c.in_ok-heard.heard.history.items ≡ true) c.requires.job c.in_ok-heard.ensures.recorded) c.in_ok-heard.ensures.pieces found.2
    (c.in_ok-closed.ensures.closes (tree_view c.args.tree.now) found.0 found.1 found.2)

pub returns-clause-links : goal.returns-clause-links
returns-clause-links g c =
    first_worked g.L.Link.shows (table_view c.args.table.now) c.args.plan.now c.args.links.now c.served.new.links c.close.new.link c.index-links-0.result c.served.ensures.links c.served.ensures.count c.close.ensures.link

pub returns-in_err-closed-clause-links : goal.returns-in_err-closed-clause-links
returns-in_err-closed-clause-links g c =
    first_worked g.L.Link.shows (table_view c.args.table.now) c.args.plan.now c.args.links.now c.served.new.links c.close.new.link c.index-links-0.result c.served.ensures.links c.served.ensures.count c.close.ensures.link
