use Rattle.std.proofs.Common.{◌≡◌, length, chars}
use denote.Text.{Utf8}
use denote.Shadow.{shadow}
use Rattle.dr_scalar.specs.Reach.{first_reach}
use Rattle.dr_scalar.proofs.like.halt_from_first_place.Given as goal

-- from the places that are left the pattern leads where it leads from all
abbrev pub invariant-places : goal.invariant-places
invariant-places l = shadow (Utf8 l.left) × (first_reach (chars l.pattern) (chars l.left) ≡ first_reach (chars l.pattern) (chars l.text))

abbrev pub decreases-places : goal.decreases-places
decreases-places l = length (chars l.left)
