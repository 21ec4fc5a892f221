use Rattle.std.proofs.Common.{rules, ◌≡◌}
use Rattle.dr_table.specs.Views.{table_view}
use Rattle.dr_dispatch.proofs.Prefixes.{prefix_trans}
use Rattle.dr_serve.specs.Working.{IsCauseFor, IsRisenFor}
use Rattle.dr_serve.proofs.EndLemmas.{on_err, ends_but_last, ends_longer, ends_turn, tells_weaker, IsRisen}
use Rattle.dr_serve.proofs.LinkLemmas.{worked_more}
use Rattle.dr_serve.proofs.TurnLemmas.{cause_before, turn_is_progress}
use Rattle.dr_serve.proofs.turns.work.Goals as goal

pub turns-smaller : goal.turns-smaller
turns-smaller g c = turn_is_progress g.S.TableJob.job c.in-Some.hand c.turns.pass c.take.new.pass c.turn.new.pass c.in-Some.ensures.taken c.turn.ensures.earlier c.turn.ensures.recorded

pub turns-preserved : goal.turns-preserved
turns-preserved g c =
    let t = table_view c.args.table.now in
    let plan = c.args.plan.now in
    let link = g.L.Link.shows c.args.link.now in
    let now = g.L.Link.shows c.turns.link in
    let new = g.L.Link.shows c.turn.new.link in (
      prefix_trans c.args.pass.now.seen c.take.new.pass.seen c.turn.new.pass.seen
          (prefix_trans c.args.pass.now.seen c.turns.pass.seen c.take.new.pass.seen c.turns.invariant.0 c.take.ensures.earlier) c.turn.ensures.earlier,
      ends_turn (IsCauseFor t plan link) g.S.TableJob.job link.faults now.faults new.faults c.in-Some.hand c.args.pass.now c.turns.pass c.take.new.pass c.turn.new.pass c.turn.ensures.link.never_falls c.turns.invariant.1 c.in-Some.ensures.taken c.turn.ensures.earlier
          c.in_ok-turn.ensures.ended
          (tells_weaker (IsRisenFor t plan now new) (IsRisen (IsCauseFor t plan link) now.faults new.faults) c.take.new.pass c.turn.new.pass
          (λ h cause k. (cause_before t plan link now h cause c.turns.invariant.2.same c.turns.invariant.2.stays_steady k.0, k.1)) c.turn.ensures.told),
      worked_more t plan link now new c.turns.invariant.2 c.turn.ensures.link,
    )

pub returns-in_err-turn-clause-silent : goal.returns-in_err-turn-clause-silent
returns-in_err-turn-clause-silent g c =
    let link = g.L.Link.shows c.args.link.now in
    on_err c.from_residual.result
    (ends_but_last (IsCauseFor (table_view c.args.table.now) c.args.plan.now link) g.S.TableJob.job link.faults (g.L.Link.shows c.turns.link).faults (g.L.Link.shows c.turn.new.link).faults c.in-Some.hand
    c.args.pass.now c.turns.pass c.take.new.pass c.turn.new.pass c.turn.ensures.link.never_falls c.turns.invariant.1 c.in-Some.ensures.taken c.in_err-turn.ensures.silent)

pub returns-in_err-turn-clause-link : goal.returns-in_err-turn-clause-link
returns-in_err-turn-clause-link g c =
    worked_more (table_view c.args.table.now) c.args.plan.now (g.L.Link.shows c.args.link.now) (g.L.Link.shows c.turns.link) (g.L.Link.shows c.turn.new.link) c.turns.invariant.2 c.turn.ensures.link

pub returns-clause-ended : goal.returns-clause-ended
returns-clause-ended g c =
    let own : c.take.new.pass.own ≡ c.turns.pass.own = search rules in
    let link = g.L.Link.shows c.args.link.now in
    ends_longer (IsCauseFor (table_view c.args.table.now) c.args.plan.now link) link.faults (g.L.Link.shows c.turns.link).faults c.args.pass.now c.turns.pass c.take.new.pass c.turns.invariant.1 c.take.ensures.earlier own
