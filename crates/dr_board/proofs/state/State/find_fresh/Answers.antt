use Rattle.std.proofs.Common.{arith, ◌≡◌, ◌<◌, ◌≤◌, List, get_or, length, sym, ap, ◌∙◌, subst}
use Rattle.dr_dispatch.specs.History.{is_history}
use Rattle.dr_dispatch.specs.Draws.{fresh}
use Rattle.dr_board.specs.Shown.{StateShown}
use Rattle.dr_board.specs.Tablets.{TabletShown, job_of, fresh_hand}
use Rattle.dr_board.proofs.StateLemmas.{fresh_there, past_is_not_fresh, fresh_takes, tablet_count}
use Rattle.dr_board.proofs.state.State.find_fresh.Goals as goal

pub returns-in-Some-clause-hand : goal.returns-in-Some-clause-hand
returns-in-Some-clause-hand c =
    let found = c.in-Some.ensures.lookup in
    let tablets = c.self.inside.tablets.items in
    let there : c.args.tablet < length tablets = subst (λ (ts : List TabletShown). c.args.tablet < length ts) c.deref.ensures.value found.3.0 in
    let is : c.in-Some.found.now ≡ get_or tablets c.args.tablet c.in-Some.found.now
    = found.1 ∙ ap (λ (ts : List TabletShown). get_or ts c.args.tablet c.in-Some.found.now) c.deref.ensures.value in
    c.fresh.ensures
    ∙ (ap (fresh_hand c.args.tablet) is
    ∙ (fresh_there _ _ _ _ _ c.self.invariant c.args.tablet c.in-Some.found.now there
    ∙ ap (λ (s : StateShown). fresh s.job s.history c.args.tablet) c.self.view_is))

pub returns-in-Some-clause-takes : goal.returns-in-Some-clause-takes
returns-in-Some-clause-takes c =
    fresh_takes c.args.self.now.job c.args.self.now.history c.args.tablet c.fresh.result
    (sym (ap (λ (s : StateShown). is_history s.job s.history) c.self.view_is) ∙ c.self.invariant.recorded) (sym (returns-in-Some-clause-hand c))

pub returns-in-None-clause-hand : goal.returns-in-None-clause-hand
returns-in-None-clause-hand c =
    let past : length c.self.inside.tablets.items ≤ c.args.tablet
    = subst (λ (ts : List TabletShown). length ts ≤ c.args.tablet) c.deref.ensures.value c.in-None.ensures.lookup.3 in
    sym (past_is_not_fresh (job_of c.self.inside.lag c.self.inside.tablets.items) c.self.inside.history.items c.args.tablet
    (omega (arith, past, tablet_count _ _ _ _ _ c.self.invariant)))
    ∙ ap (λ (s : StateShown). fresh s.job s.history c.args.tablet) c.self.view_is
