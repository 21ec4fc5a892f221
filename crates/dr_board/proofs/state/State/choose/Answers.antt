use Rattle.std.proofs.Common.{arith, ◌≡◌, length, sym, ap, ◌∙◌}
use Rattle.dr_dispatch.specs.Choice.{choice}
use Rattle.dr_board.specs.Shown.{StateShown}
use Rattle.dr_board.proofs.StateLemmas.{choice_there, choice_takes}
use Rattle.dr_board.proofs.state.State.choose.Goals as goal

pub returns-clause-hand : goal.returns-clause-hand
returns-clause-hand c =
    let counted : c.len.result ≡ length c.self.inside.history.items = omega (arith, c.len.ensures, c.self.inside.history.ok.0) in
    c.choose.ensures.hand
    ∙ (choice_there _ _ _ _ _ c.self.invariant c.len.result c.as_slice.result.now counted c.as_slice.ensures.value
    ∙ ap (λ (s : StateShown). choice s.job s.history) c.self.view_is)

pub returns-clause-takes : goal.returns-clause-takes
returns-clause-takes c =
    let counted : c.len.result ≡ length c.self.inside.history.items = omega (arith, c.len.ensures, c.self.inside.history.ok.0) in
    choice_takes c.args.self.now.job c.args.self.now.history c.choose.result (sym (c.choose.ensures.hand
    ∙ (choice_there _ _ _ _ _ c.self.invariant c.len.result c.as_slice.result.now counted c.as_slice.ensures.value
    ∙ ap (λ (s : StateShown). choice s.job s.history) c.self.view_is)))
