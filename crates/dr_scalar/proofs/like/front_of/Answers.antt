use Rattle.std.proofs.Common.{◌∙◌, ap, chars, subst, Some, None, ℕ, List}
use Rattle.memchr.specs.Find.{IsFirstByte, is_byte2}
use Rattle.dr_scalar.proofs.FrontLemmas.{whole_front, front_to_sign}
use Rattle.dr_scalar.proofs.like.front_of.Goals as goal

pub returns-in-Some : goal.returns-in-Some
returns-in-Some c =
    ap chars c.range.ensures.value
    ∙ front_to_sign c.args.pattern.now c.in-Some.end c.utf8.pattern (subst (λ (xs : List ℕ). IsFirstByte (is_byte2 37 95) xs (Some c.in-Some.end)) c.as_bytes.ensures.value c.in-Some.ensures)

pub returns-in-None : goal.returns-in-None
returns-in-None c = whole_front c.args.pattern.now c.utf8.pattern (subst (λ (xs : List ℕ). IsFirstByte (is_byte2 37 95) xs None) c.as_bytes.ensures.value c.in-None.ensures)
