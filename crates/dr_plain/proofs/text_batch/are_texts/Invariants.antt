use Rattle.std.proofs.Common.{◌≡◌, true, take}
use Rattle.dr_plain.specs.Views.{AreTexts}
use Rattle.dr_plain.proofs.text_batch.are_texts.Given as goal

abbrev pub invariant-places : goal.invariant-places
invariant-places l = l.fits ≡ true → AreTexts l.all (take l.index l.places)
