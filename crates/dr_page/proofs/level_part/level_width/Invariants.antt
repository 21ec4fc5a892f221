use Rattle.dr_page.proofs.WidthLemmas.{Digits}
use Rattle.dr_page.proofs.level_part.level_width.Given as goal

abbrev pub invariant-digits : goal.invariant-digits
invariant-digits l = Digits l.greatest l.rest l.width

abbrev pub decreases-digits : goal.decreases-digits
decreases-digits l = l.rest
