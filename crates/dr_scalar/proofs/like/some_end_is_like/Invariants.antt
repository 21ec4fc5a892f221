use Rattle.std.proofs.Common.{◌≡◌, length, chars}
use denote.Text.{Utf8}
use denote.Shadow.{shadow}
use Rattle.dr_meaning.specs.Expression.{matches, some_end}
use Rattle.dr_scalar.proofs.like.some_end_is_like.Given as goal

-- the places that are left are as good as all
abbrev pub invariant-parts : goal.invariant-parts
invariant-parts l = shadow (Utf8 l.wanted) × shadow (Utf8 l.left) × (some_end (matches (chars l.wanted)) (chars l.left) ≡ some_end (matches (chars l.pattern)) (chars l.text))

abbrev pub decreases-parts : goal.decreases-parts
decreases-parts l = length (chars l.wanted)
