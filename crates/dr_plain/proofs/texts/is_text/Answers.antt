use Rattle.std.proofs.Common.{◌≡◌, refl}
use Rattle.std.specs.Str.{IsUtf8}
use Rattle.dr_plain.proofs.ReadSteps.{at_some, part_of_text}
use Rattle.dr_plain.proofs.texts.is_text.Goals as goal

pub returns-then-is_char_boundary-2 : goal.returns-then-is_char_boundary-2
returns-then-is_char_boundary-2 c = (
  λ t. part_of_text c.in-Some.text.now c.args.bytes.now c.args.start c.args.end (at_some c.args.all c.in-Some.text (λ x. x.now ≡ c.args.bytes.now) c.in-Some.is c.requires.all) (at_some c.args.all c.in-Some.text (λ x. IsUtf8 c.args.bytes.now) c.in-Some.is c.requires.utf8) c.requires.order (c.if-is_char_boundary.ensures.test.0 refl) (c.if-is_char_boundary-2.ensures.test.0 refl),
  λ u. refl,
)
