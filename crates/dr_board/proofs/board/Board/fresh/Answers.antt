use Rattle.std.proofs.Common.{List, sym, ap, ◌∙◌, subst}
use Rattle.dr_dispatch.specs.Choice.{after_give}
use Rattle.dr_dispatch.specs.Draws.{fresh}
use Rattle.dr_dispatch.specs.Job.{Job}
use Rattle.dr_dispatch.specs.Pieces.{KeepsPieces}
use Rattle.dr_dispatch.specs.declared.event.Event.{Event}
use Rattle.dr_board.proofs.BoardLemmas.{keeps_fresh}
use Rattle.dr_board.proofs.board.Board.fresh.Goals as goal

pub invariant_of-self : goal.invariant_of-self
invariant_of-self g c =
    let i = c.self.invariant in
    let history = c.self.inside.state.history in record {
      kept = subst (λ (h : List Event). KeepsPieces g.N.Naming.job g.P.Piece.tablet_of g.N.Naming.is_true h c.self.inside.pieces.items)
          (sym (c.fresh.ensures.history ∙ ap (λ (j : Job). after_give history (fresh j history c.args.tablet)) i.job)) (keeps_fresh _ _ _ _ _ i.kept c.args.tablet);
      job = c.fresh.ensures.job ∙ i.job;
      room = i.room;
    }
