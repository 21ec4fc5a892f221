use Rattle.std.proofs.Common.{rules, ◌≡◌, [], ◌++◌, List, sym, ap, ◌∙◌, subst}
use Rattle.dr_dispatch.specs.Seen.{AreOfHistory}
use Rattle.dr_dispatch.specs.declared.event.Event.{Event}
use Rattle.dr_dispatch.specs.declared.seen.PassShown.{PassShown}
use Rattle.dr_dispatch.proofs.SeatLemmas.{met_are_of_history}
use Rattle.dr_desk.proofs.desk.Desk.shut.Goals as goal

pub returns-clause-passes : goal.returns-clause-passes
returns-clause-passes g c =
    let v = c.passes.keeper.me.0 in
    let gone : c.passes.passes.items ≡ [] = search rules in
    let met : v.met ≡ c.args.passes.items = sym {A = List PassShown} (c.passes.invariant.4 ∙ ap (λ (ps : List PassShown). ps ++ v.met) gone) in
    let seen : v.seen ≡ c.close.result.history.items = search rules in
    subst (λ (x : List Event × List PassShown). AreOfHistory x.0 x.1) (λ i. (seen i, met i)) (met_are_of_history v.seen v.own v.met c.look.ensures.met)
