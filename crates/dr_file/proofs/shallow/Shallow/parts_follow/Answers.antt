use Rattle.std.proofs.Common.{◌∙◌, get_or, sym, arith}
use Rattle.dr_file.proofs.FloorLemmas.{follow_tested}
use Rattle.dr_file.proofs.RowOrderLemmas.{all_followed}
use Rattle.dr_levels.proofs.ApartLemmas.{as_many}
use Rattle.dr_file.proofs.ShallowLemmas.{parts_more}
use Rattle.dr_file.proofs.shallow.Shallow.parts_follow.Goals as goal

pub levels-preserved : goal.levels-preserved
levels-preserved c = λ p ls h r d.
    let rs = c.args.repetitions.now in
    let ds = c.args.definitions.now in
    let i = c.levels.at in
    c.levels.invariant p ls h r d
    ∙ parts_more p c.levels.last ls i rs ds c.levels.fits _ r d c.levels-test.true (follow_tested p c.levels.last (get_or ds i 0) (get_or rs i 0) c.least-floor.result (c.least-floor.ensures ∙ h (get_or rs i 0)))

pub returns : goal.returns
returns c = λ p ls h r d. sym (c.levels.invariant p ls h r d ∙ all_followed p c.levels.last ls c.levels.at c.levels.fits (omega (arith, c.levels-test.false, as_many ls c.args.repetitions.now r)))
