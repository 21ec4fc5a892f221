use Rattle.std.proofs.Common.{refl, arith}
use Rattle.dr_file.proofs.ShallowLemmas.{shallow_floors}
use Rattle.dr_file.proofs.floors.Floors.shallow.Goals as goal

pub returns-clause-some : goal.returns-clause-some
returns-clause-some c = λ p h.
    let f = c.args.self.now in
    shallow_floors p f _ h (omega (arith, c.if-len-gt-SHALLOW.false, c.len.ensures, f.levels.ok.0)) c.floor_at.ensures c.floor_at-2.ensures c.floor_at-3.ensures refl
