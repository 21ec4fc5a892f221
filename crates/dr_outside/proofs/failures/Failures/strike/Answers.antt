use Rattle.std.proofs.Common.{◌≡◌, ◌+◌, true, arith, subst, sym, ◌∙◌}
use Rattle.dr_outside.specs.Failing.{is_quiet}
use Rattle.dr_outside.proofs.FailingLemmas.{none_listed, all_below}
use Rattle.dr_outside.proofs.failures.Failures.strike.Goals as goal

pub returns-then-due-clause-quiet : goal.returns-then-due-clause-quiet
returns-then-due-clause-quiet c = λ h.
    let quiet = subst (λ f. is_quiet f ≡ true) (sym c.self.view_is) h in
    c.has_call-due.ensures ∙ rw c.deref.ensures.value (none_listed c.self.inside.calls c.self.inside.listed.items quiet)

pub returns-then-due-clause-stays_quiet : goal.returns-then-due-clause-stays_quiet
returns-then-due-clause-stays_quiet c = λ h.
    all_below c.self.inside.calls (c.self.inside.calls + 1) c.self.inside.listed.items (omega arith) (subst (λ f. is_quiet f ≡ true) (sym c.self.view_is) h)

pub returns-else-due-clause-stays_quiet : goal.returns-else-due-clause-stays_quiet
returns-else-due-clause-stays_quiet c = λ h.
    all_below c.self.inside.calls (c.self.inside.calls + 1) c.self.inside.listed.items (omega arith) (subst (λ f. is_quiet f ≡ true) (sym c.self.view_is) h)
