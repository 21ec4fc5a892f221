use Rattle.std.proofs.Common.{◌≡◌, length, chars}
use denote.Text.{Utf8}
use denote.Shadow.{shadow}
use Rattle.dr_scalar.specs.Reach.{reach}
use Rattle.dr_scalar.proofs.like.first_halt.Given as goal

-- what is left of the pattern leads in what is left of the text where the whole leads
abbrev pub invariant-characters : goal.invariant-characters
invariant-characters l = shadow (Utf8 l.wanted) × shadow (Utf8 l.left) × (reach (chars l.wanted) (chars l.left) ≡ reach (chars l.pattern) (chars l.text))

abbrev pub decreases-characters : goal.decreases-characters
decreases-characters l = length (chars l.wanted)
