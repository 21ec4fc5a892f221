use Rattle.std.proofs.Common.{◌≡◌, [], Some, None, sym, ap, subst, ◌∙◌, true≢false}
use Rattle.std.specs.Prelude.{not, is_some}
use Rattle.dr_walk.specs.Checking.{rest_at}
use Rattle.dr_walk.specs.Batches.{ComesOf}
use Rattle.dr_walk.proofs.BatchLemmas.{comes_nothing}
use Rattle.dr_walk.proofs.batches.step_over.Goals as goal
use Rattle.dr_walk.proofs.batches.step_over.Goals.{else-is_none-via-then-is_none+else-not-is_ended, else-is_none-via-else-is_none}

pub returns-in_default-clause-nests : goal.returns-in_default-clause-nests
returns-in_default-clause-nests c = λ fs F C rows ms later p d ends on L q are.
    c.go_on.ensures.nests fs F C rows ms later p d on (comes_nothing c.args.walk.now.wanted (rest_at c.args.rests.now) later (λ i e. c.in_default.not-Some i (c.wants.ensures ∙ e))) L q are

pub returns-clause-nests : goal.returns-clause-nests
returns-clause-nests c = λ fs F C rows ms later p d ends on L q are.
    let leaf = c.in-Some.leaf in
    let w : c.args.walk.now.wanted ≡ Some leaf = sym c.wants.ensures ∙ c.in-Some.is in
    let here = rest_at c.args.rests.now in
    let more = c.next_levels-more.result in
    let nests = λ (last : more ≡ None → later leaf ≡ []). c.go_on-2.ensures.nests fs F C rows ms later p d on (subst (λ o. ComesOf o here later more) (sym w) (c.next_levels-more.ensures, last)) L q are in
    elim c.else-is_none.branch [
      | else-is_none-via-then-is_none+else-not-is_ended b ↦ nests (λ e. ends leaf (sym b.is_ended.ensures ∙ b.if-not-is_ended.false))
      | else-is_none-via-else-is_none b ↦ nests (λ e. absurd (true≢false (sym (ap not b.if-is_none.false) ∙ sym c.is_none.ensures ∙ ap is_some e)))
    ]
