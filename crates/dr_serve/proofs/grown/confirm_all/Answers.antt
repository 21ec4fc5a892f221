use Rattle.std.proofs.Common.{rules, ◌≡◌, [], sym, subst, ◌∙◌}
use Rattle.dr_serve.specs.GrowsOn.{AreAnswered}
use Rattle.dr_serve.proofs.JournalLemmas.{answered_more, shown_answer}
use Rattle.dr_serve.proofs.grown.confirm_all.Goals as goal

pub pieces-preserved : goal.pieces-preserved
pieces-preserved g c =
    let journal = c.args.journal.now in
    let answered = shown_answer journal c.pieces.journal c.into_receipt.result.seen c.in-Some.added c.pieces.invariant.0 c.confirm.ensures.earlier c.into_receipt.ensures in (
      c.confirm.ensures.same ∙ c.pieces.invariant.0,
      λ have. c.pieces.invariant.1 (subst (AreAnswered journal) (sym c.in-Some.ensures.items) (answered_more journal c.pop.new.self.items c.in-Some.added have answered)),
    )

pub returns-clause-answered : goal.returns-clause-answered
returns-clause-answered g c =
    let gone : c.pieces.pieces.items ≡ [] = search rules in
    c.pieces.invariant.1 (subst (AreAnswered c.args.journal.now) (sym gone) tt)
