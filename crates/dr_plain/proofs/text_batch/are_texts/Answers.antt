use Rattle.std.proofs.Common.{subst}
use Rattle.std.proofs.lemmas.List.{take_all}
use Rattle.std.proofs.lemmas.List.Elements.{All-nil, All-get_or}
use Rattle.std.proofs.Common.{◌≤◌, ◌+◌, length}
use Rattle.dr_plain.specs.declared.values.TextPlace.{TextPlace}
use Rattle.dr_plain.specs.Views.{AreTexts, IsText}
use Rattle.dr_plain.proofs.BatchSteps.{texts_step}
use Rattle.dr_plain.proofs.text_batch.are_texts.Goals as goal

pub places-init : goal.places-init
places-init c = λ e. All-nil (IsText c.args.all.now)

pub is_between_characters-fits-requires-clause-within : goal.is_between_characters-fits-requires-clause-within
is_between_characters-fits-requires-clause-within c =
    let d : TextPlace = record { start = 0; length = 0 } in
    All-get_or (λ (p : TextPlace). p.start + p.length ≤ length c.args.all.now) c.args.places.now c.places.index d c.places-test.true c.requires.within

pub places-preserved : goal.places-preserved
places-preserved c = λ e.
    let d : TextPlace = record { start = 0; length = 0 } in
    texts_step c.args.all.now c.args.places.now c.places.index d c.places.fits c.is_between_characters-fits.result c.places-test.true c.places.invariant c.is_between_characters-fits.ensures e

pub returns : goal.returns
returns c = λ e. subst (AreTexts c.args.all.now) (take_all c.places.index c.args.places.now c.places-test.false) (c.places.invariant e)
