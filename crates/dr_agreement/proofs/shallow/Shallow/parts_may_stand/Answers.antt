use Rattle.std.proofs.Common.{◌∙◌}
use Rattle.dr_agreement.proofs.ShallowLemmas.{parts_more}
use Rattle.dr_agreement.proofs.shallow.Shallow.parts_may_stand.Goals as goal

pub levels-preserved : goal.levels-preserved
levels-preserved c = λ p ls h r d.
    c.levels.invariant p ls h r d
    ∙ parts_more p c.levels.last ls c.levels.at c.args.repetitions.now c.args.definitions.now c.levels.fits c.may_stand-fits.result r d c.levels-test.true (c.may_stand-fits.ensures p h)
