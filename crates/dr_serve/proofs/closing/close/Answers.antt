use Rattle.std.proofs.Common.{◌≡◌, ℕ, length, ap, subst, arith}
use Rattle.dr_plan.specs.Planned.{plan_leaves}
use Rattle.std.proofs.lemmas.List.{drop_all, length-map}
use Rattle.dr_table.specs.Views.{table_view}
use Rattle.dr_table.specs.LeftViews.{all_left_view}
use Rattle.dr_serve.specs.Closing.{has_some}
use Rattle.dr_serve.specs.Rounds.{HasRead}
use Rattle.dr_serve.proofs.CloseLemmas.{none_closed, next_tablet, all_closed, when_done}
use Rattle.dr_serve.proofs.LinkLemmas.{worked_none, worked_more}
use Rattle.dr_serve.proofs.closing.close.Goals as goal

pub tablets-init : goal.tablets-init
tablets-init g c =
    let link = g.L.Link.shows c.args.link.now in (
      λ tree places h e. none_closed (table_view c.args.table.now) c.args.plan.now tree g.S.TableJob.is_true link places c.args.answered.grown (all_left_view c.new-left.result.items) h (ap all_left_view c.new-left.ensures.items),
      worked_none (table_view c.args.table.now) c.args.plan.now link,
    )

pub index-is_there-requires : goal.index-is_there-requires
index-is_there-requires g c =
    let found = c.requires.found in
    let many = found.2.count in
    omega (arith, c.tablets-test.true, many, ap length found.3, length-map found.1 has_some)

pub close_tablet-requires-clause-next : goal.close_tablet-requires-clause-next
close_tablet-requires-clause-next g c =
    let found = c.requires.found in
    let many = found.2.count in
    next_tablet (table_view c.args.table.now) c.args.plan.now found.0 g.S.TableJob.is_true (g.L.Link.shows c.args.link.now) (g.L.Link.shows c.tablets.link) found.1 c.args.answered.has_piece.items c.tablets.tablet c.index-is_there.result.now
    c.tablets.closed.grown (all_left_view c.tablets.closed.left.items) (c.tablets.invariant.0 found.0 found.1 found.2 found.3) (omega (arith, c.tablets-test.true, many)) found.3 c.index-is_there.ensures

pub tablets-preserved : goal.tablets-preserved
tablets-preserved g c =
    let now = g.L.Link.shows c.tablets.link in (
      λ tree places h e.
          let many = h.count in
          when_done _ _ c.in_ok-close_tablet.was (c.close_tablet.ensures.closed (next_tablet (table_view c.args.table.now) c.args.plan.now tree g.S.TableJob.is_true (g.L.Link.shows c.args.link.now) now places c.args.answered.has_piece.items c.tablets.tablet c.index-is_there.result.now
          c.tablets.closed.grown (all_left_view c.tablets.closed.left.items) (c.tablets.invariant.0 tree places h e) (omega (arith, c.tablets-test.true, many)) e c.index-is_there.ensures)),
      worked_more (table_view c.args.table.now) c.args.plan.now (g.L.Link.shows c.args.link.now) now (g.L.Link.shows c.close_tablet.new.link) c.tablets.invariant.1 c.close_tablet.ensures.link,
    )

pub returns-clause-closes : goal.returns-clause-closes
returns-clause-closes g c =
    λ tree places h e.
    let many = h.count in
    all_closed (table_view c.args.table.now) c.args.plan.now tree g.S.TableJob.is_true (g.L.Link.shows c.args.link.now) (g.L.Link.shows c.tablets.link) places _ c.tablets.tablet c.tablets.closed.grown
    (all_left_view c.tablets.closed.left.items) (c.tablets.invariant.0 tree places h e) (drop_all c.tablets.tablet places (omega (arith, c.tablets-test.false, many))) h.count

pub returns-clause-rises : goal.returns-clause-rises
returns-clause-rises g c = let found = c.requires.found in (c.tablets.invariant.0 found.0 found.1 found.2 found.3).rises

pub returns-clause-read : goal.returns-clause-read
returns-clause-read g c =
    let found = c.requires.found in
    let many = found.2.count in
    let n : c.tablets.tablet ≡ c.args.table.now.tablets = omega (arith, c.tablets-test.false, c.tablets.auto.tablet-end) in
    subst (λ (m : ℕ). HasRead (table_view c.args.table.now) (plan_leaves c.args.plan.now) (g.L.Link.shows c.args.link.now) (g.L.Link.shows c.tablets.link) m (all_left_view c.tablets.closed.left.items)) n
    (c.tablets.invariant.0 found.0 found.1 found.2 found.3).read

pub returns-in_err-close_tablet-clause-link : goal.returns-in_err-close_tablet-clause-link
returns-in_err-close_tablet-clause-link g c =
    worked_more (table_view c.args.table.now) c.args.plan.now (g.L.Link.shows c.args.link.now) (g.L.Link.shows c.tablets.link) (g.L.Link.shows c.close_tablet.new.link) c.tablets.invariant.1 c.close_tablet.ensures.link
