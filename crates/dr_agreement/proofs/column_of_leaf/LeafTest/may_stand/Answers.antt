use Rattle.std.proofs.Common.{◌∙◌, ℕ, List, length, get_or, ap, ap₂, arith}
use Rattle.dr_agreement.proofs.AloneLemmas.{stands_by, stands_not}
use Rattle.dr_agreement.proofs.column_of_leaf.LeafTest.may_stand.Goals as goal

pub returns-in-Some : goal.returns-in-Some
returns-in-Some c = λ l h.
    let at = c.in-Some.ensures.lookup in
    let items = c.deref.ensures.value ∙ h.least in
    let within = ap (λ (xs : List ℕ). length xs) items in
    stands_by l.path c.args.before c.args.next.repetition c.args.next.definition c.in-Some.least.now c.args.self.now.greatest (omega (arith, at.3.0, within, c.from.ensures))
    (at.3.1 0 ∙ ap₂ (λ (xs : List ℕ) (n : ℕ). get_or xs n 0) items c.from.ensures) h.greatest

pub returns-in-None : goal.returns-in-None
returns-in-None c = λ l h.
    let at = c.in-None.ensures.lookup in
    let items = c.deref.ensures.value ∙ h.least in
    let within = ap (λ (xs : List ℕ). length xs) items in
    stands_not l.path c.args.before c.args.next.repetition c.args.next.definition (omega (arith, at, within, c.from.ensures))
