use Rattle.std.proofs.Common.{◌∙◌, sym, chars, rules}
use Rattle.dr_scalar.proofs.LikeLemmas.{first_ended, first_stopped, first_open, empty_is_wanted}
use Rattle.dr_scalar.proofs.like.some_end_is_like.Goals as goal

pub returns-in-End : goal.returns-in-End
returns-in-End c = sym (first_ended (chars c.parts.wanted.now) (chars c.parts.left.now) c.in-End.ensures) ∙ c.parts.invariant.2

pub returns-in-Apart : goal.returns-in-Apart
returns-in-Apart c = sym (first_stopped (chars c.parts.wanted.now) (chars c.parts.left.now) c.in-Apart.ensures) ∙ c.parts.invariant.2

pub parts-preserved : goal.parts-preserved
parts-preserved c = (
  search rules,
  search rules,
  sym (first_open (chars c.parts.wanted.now) (chars c.parts.left.now) (chars c.in-Percent.behind.now) (chars c.in-Percent.rest.now) c.in-Percent.ensures).0 ∙ c.parts.invariant.2,
)

pub parts-smaller : goal.parts-smaller
parts-smaller c = (first_open (chars c.parts.wanted.now) (chars c.parts.left.now) (chars c.in-Percent.behind.now) (chars c.in-Percent.rest.now) c.in-Percent.ensures).1

pub returns : goal.returns
returns c = sym (empty_is_wanted c.parts.wanted.now (chars c.parts.left.now) (sym c.parts-test.ensures)) ∙ c.parts.invariant.2
