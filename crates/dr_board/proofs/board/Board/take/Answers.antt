use Rattle.std.proofs.Common.{List, sym, ap, ◌∙◌, subst}
use Rattle.dr_dispatch.specs.Choice.{after_take}
use Rattle.dr_dispatch.specs.Job.{Job}
use Rattle.dr_dispatch.specs.Pieces.{KeepsPieces}
use Rattle.dr_dispatch.specs.declared.event.Event.{Event}
use Rattle.dr_board.proofs.BoardLemmas.{keeps_take}
use Rattle.dr_board.proofs.board.Board.take.Goals as goal

pub invariant_of-self : goal.invariant_of-self
invariant_of-self g c =
    let i = c.self.invariant in record {
      kept = subst (λ (h : List Event). KeepsPieces g.N.Naming.job g.P.Piece.tablet_of g.N.Naming.is_true h c.self.inside.pieces.items)
          (sym (c.take.ensures.history ∙ ap (λ (j : Job). after_take j c.self.inside.state.history) i.job)) (keeps_take _ _ _ _ _ i.kept);
      job = c.take.ensures.job ∙ i.job;
      room = i.room;
    }
