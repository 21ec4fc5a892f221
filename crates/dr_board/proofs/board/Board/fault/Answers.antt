use Rattle.std.proofs.Common.{List, refl, sym, ap, ◌∙◌, subst}
use Rattle.dr_dispatch.specs.History.{after_event}
use Rattle.dr_dispatch.specs.Job.{Job}
use Rattle.dr_dispatch.specs.Pieces.{KeepsPieces}
use Rattle.dr_dispatch.specs.declared.event.Event.{Event}
use Rattle.dr_dispatch.specs.declared.event.Event.TheVariants.{Fault}
use Rattle.dr_board.proofs.BoardLemmas.{keeps_after}
use Rattle.dr_board.proofs.board.Board.fault.Goals as goal

pub invariant_of-self : goal.invariant_of-self
invariant_of-self g c =
    let i = c.self.invariant in
    let e : Event = Fault c.args.hand c.args.cause in record {
      kept = subst (λ (h : List Event). KeepsPieces g.N.Naming.job g.P.Piece.tablet_of g.N.Naming.is_true h c.self.inside.pieces.items)
          (sym (c.record.ensures.history ∙ ap (λ (j : Job). after_event j c.self.inside.state.history e) i.job)) (keeps_after _ _ _ _ _ i.kept e refl);
      job = c.record.ensures.job ∙ i.job;
      room = i.room;
    }
