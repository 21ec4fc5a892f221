use Rattle.std.proofs.Common.{arith, ◌≡◌, ◌<◌, ◌≤◌, List, get_or, length, sym, ap, ◌∙◌, subst}
use Rattle.dr_dispatch.specs.History.{is_recorded}
use Rattle.dr_board.specs.Shown.{StateShown}
use Rattle.dr_board.specs.Tablets.{TabletShown, job_of, takes_event, hand_of}
use Rattle.dr_board.proofs.StateLemmas.{takes_at, past_is_not_recorded, tablet_count}
use Rattle.dr_board.proofs.state.State.takes.Goals as goal

pub returns-in-Some-clause-told : goal.returns-in-Some-clause-told
returns-in-Some-clause-told c =
    let found = c.in-Some.ensures.lookup in
    let tablets = c.self.inside.tablets.items in
    let there : c.tablet_of.result < length tablets = subst (λ (ts : List TabletShown). c.tablet_of.result < length ts) c.deref.ensures.value found.3.0 in
    let is : c.in-Some.tablet.now ≡ get_or tablets c.tablet_of.result c.in-Some.tablet.now
    = found.1 ∙ ap (λ (ts : List TabletShown). get_or ts c.tablet_of.result c.in-Some.tablet.now) c.deref.ensures.value in
    c.takes.ensures
    ∙ (ap (λ (t : TabletShown). takes_event t c.args.event) is
    ∙ (takes_at _ _ _ _ _ c.self.invariant c.args.event c.tablet_of.result c.in-Some.tablet.now (sym c.tablet_of.ensures) there
    ∙ ap (λ (s : StateShown). is_recorded s.job s.history c.args.event) c.self.view_is))

pub returns-in-None-clause-told : goal.returns-in-None-clause-told
returns-in-None-clause-told c =
    let past : length c.self.inside.tablets.items ≤ (hand_of c.args.event).tablet
    = subst (λ (ts : List TabletShown). length ts ≤ (hand_of c.args.event).tablet) c.deref.ensures.value (omega (arith, c.in-None.ensures.lookup.3, c.tablet_of.ensures)) in
    sym (past_is_not_recorded (job_of c.self.inside.lag c.self.inside.tablets.items) c.self.inside.history.items c.args.event c.self.invariant.recorded
    (omega (arith, past, tablet_count _ _ _ _ _ c.self.invariant)))
    ∙ ap (λ (s : StateShown). is_recorded s.job s.history c.args.event) c.self.view_is
