use Rattle.std.proofs.Common.{arith, ◌≡◌, ◌<◌, ◌≤◌, List, get_or, length, sym, ap, ◌∙◌, subst}
use Rattle.std.specs.List.{list_any}
use Rattle.dr_dispatch.specs.History.{has_give}
use Rattle.dr_board.specs.Shown.{StateShown}
use Rattle.dr_board.specs.Tablets.{TabletShown, job_of, is_given_on}
use Rattle.dr_board.proofs.StateLemmas.{given_at, was_not_given, tablet_count}
use Rattle.dr_board.proofs.state.State.was_given.Goals as goal

pub returns-in-Some : goal.returns-in-Some
returns-in-Some c =
    let found = c.in-Some.ensures.lookup in
    let tablets = c.self.inside.tablets.items in
    let there : c.args.hand.tablet < length tablets = subst (λ (ts : List TabletShown). c.args.hand.tablet < length ts) c.deref.ensures.value found.3.0 in
    let is : c.in-Some.tablet.now ≡ get_or tablets c.args.hand.tablet c.in-Some.tablet.now
    = found.1 ∙ ap (λ (ts : List TabletShown). get_or ts c.args.hand.tablet c.in-Some.tablet.now) c.deref.ensures.value in
    c.was_given.ensures
    ∙ (ap (λ (t : TabletShown). list_any (is_given_on c.args.hand.leaf) t.leaves) is
    ∙ (given_at _ _ _ _ _ c.self.invariant c.args.hand c.in-Some.tablet.now there
    ∙ ap (λ (s : StateShown). has_give s.history c.args.hand) c.self.view_is))

pub returns-in-None : goal.returns-in-None
returns-in-None c =
    let past : length c.self.inside.tablets.items ≤ c.args.hand.tablet
    = subst (λ (ts : List TabletShown). length ts ≤ c.args.hand.tablet) c.deref.ensures.value c.in-None.ensures.lookup.3 in
    sym (was_not_given (job_of c.self.inside.lag c.self.inside.tablets.items) c.self.inside.history.items c.args.hand c.self.invariant.recorded
    (omega (arith, past, tablet_count _ _ _ _ _ c.self.invariant)))
    ∙ ap (λ (s : StateShown). has_give s.history c.args.hand) c.self.view_is
