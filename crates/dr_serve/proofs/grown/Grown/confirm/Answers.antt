use Rattle.std.proofs.Common.{rules, ◌≡◌, List, Bool, sym, subst}
use Rattle.dr_dispatch.specs.declared.event.Event.{Event}
use Rattle.dr_serve.specs.GrowsOn.{HavePieces, IsOfPieces}
use Rattle.dr_serve.proofs.JournalLemmas.{have_pieces}
use Rattle.dr_serve.proofs.grown.Grown.confirm.Goals as goal

pub invariant_of-self : goal.invariant_of-self
invariant_of-self g c = (c.self.invariant.0, subst (λ (j : List Event). IsOfPieces j c.self.inside.has_piece.items) (sym c.confirm_all.ensures.same) c.self.invariant.1)

pub returns-clause-there : goal.returns-clause-there
returns-clause-there g c =
    let same : c.args.self.now ≡ c.self.inside.has_piece.items = search rules in
    subst (λ (bs : List Bool). HavePieces bs c.args.pieces.items) (sym same) (have_pieces c.self.inside.journal c.self.inside.has_piece.items c.args.pieces.items c.self.invariant.1 c.confirm_all.ensures.answered)
