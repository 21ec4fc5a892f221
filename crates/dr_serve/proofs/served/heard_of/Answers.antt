use Rattle.std.proofs.Common.{List, Bool, sym, subst, ◌∙◌}
use Rattle.dr_serve.specs.GrowsOn.{HavePieces}
use Rattle.dr_serve.proofs.JournalLemmas.{kept_have_pieces}
use Rattle.dr_serve.proofs.served.heard_of.Goals as goal

pub returns-clause-pieces : goal.returns-clause-pieces
returns-clause-pieces g c =
    kept_have_pieces c.into_answered.result.has_piece.items c.args.closing.history.items c.args.closing.pieces.items c.requires.tablets (subst (λ (bs : List Bool). HavePieces bs c.args.closing.pieces.items) (sym (c.into_answered.ensures.pieces ∙ c.confirm.ensures.same)) c.confirm.ensures.there)
