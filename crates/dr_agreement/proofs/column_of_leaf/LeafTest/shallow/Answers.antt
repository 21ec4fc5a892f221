use Rattle.std.proofs.Common.{ap, length, refl, arith}
use Rattle.dr_agreement.proofs.ShallowLemmas.{shallow_test}
use Rattle.dr_agreement.proofs.column_of_leaf.LeafTest.shallow.Goals as goal

pub returns-clause-some : goal.returns-clause-some
returns-clause-some c = λ l h.
    let t = c.args.self.now in
    shallow_test l t _ h (omega (arith, c.if-len-gt-SHALLOW.false, c.len.ensures, t.least.ok.0)) refl (omega (arith, c.saturating_sub.ensures, c.len-2.ensures, t.least.ok.0, ap length h.least)) c.least_at.ensures c.least_at-2.ensures c.least_at-3.ensures
