use Rattle.std.proofs.Common.{◌≡◌, [], ◌∷◌, ◌++◌, arith}
use Rattle.std.proofs.lemmas.Int.{to_z-of_z}
use Rattle.dr_compact.proofs.reading.put_signed.Goals as goal

pub returns-clause-put : goal.returns-clause-put
returns-clause-put c =
    let x = c.in_ok-next_signed in
    let pushed : c.push.new.self.items ≡ c.args.numbers.items ++ x.field-0 ∷ [] = grind (arith, to_z-of_z) in
    (x.field-0, x.ensures, pushed)
