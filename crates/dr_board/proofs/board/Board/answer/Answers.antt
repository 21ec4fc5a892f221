use Rattle.std.proofs.Common.{arith, ◌≡◌, ◌++◌, ◌∷◌, [], true, List, sym, ap, ◌∙◌, subst}
use Rattle.dr_dispatch.specs.History.{is_recorded, after_event}
use Rattle.dr_dispatch.specs.Job.{Job}
use Rattle.dr_dispatch.specs.Pieces.{KeepsPieces}
use Rattle.dr_dispatch.specs.declared.event.Event.{Event}
use Rattle.dr_dispatch.specs.declared.event.Event.TheVariants.{Answer}
use Rattle.dr_board.proofs.BoardLemmas.{piece_room, keeps_answered}
use Rattle.dr_board.proofs.board.Board.answer.Goals as goal

pub push_reserved-requires : goal.push_reserved-requires
push_reserved-requires g c =
    let i = c.self.invariant in
    let recorded : is_recorded g.N.Naming.job c.self.inside.state.history (Answer c.args.hand) ≡ true
    = ap (λ (j : Job). is_recorded j c.self.inside.state.history (Answer c.args.hand)) (sym i.job) ∙ sym c.if-not-record.ensures.told in
    let room = piece_room _ _ _ _ _ i.kept c.args.hand recorded in
    omega (arith, room, c.self.inside.pieces.ok.0, i.room)

pub invariant_of-self-2 : goal.invariant_of-self-2
invariant_of-self-2 g c =
    let i = c.self.invariant in
    let recorded : is_recorded g.N.Naming.job c.self.inside.state.history (Answer c.args.hand) ≡ true
    = ap (λ (j : Job). is_recorded j c.self.inside.state.history (Answer c.args.hand)) (sym i.job) ∙ sym c.if-not-record.ensures.told in record {
      kept = rw c.push_reserved.ensures.items (subst (λ (h : List Event). KeepsPieces g.N.Naming.job g.P.Piece.tablet_of g.N.Naming.is_true h (c.self.inside.pieces.items ++ c.args.piece ∷ []))
          (sym (c.record.ensures.history ∙ ap (λ (j : Job). after_event j c.self.inside.state.history (Answer c.args.hand)) i.job))
          (keeps_answered _ _ _ _ _ i.kept c.args.hand c.args.piece recorded c.requires.tablet c.requires.truth));
      job = c.record.ensures.job ∙ i.job;
      room = omega (arith, c.push_reserved.ensures.capacity, i.room);
    }
