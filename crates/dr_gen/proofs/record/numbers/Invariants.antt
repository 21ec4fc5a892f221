use Rattle.std.proofs.Common.{◌+◌}
use Rattle.dr_gen.specs.Generator as meant
use Rattle.dr_gen.proofs.RecordLemmas.{Made}
use Rattle.dr_gen.proofs.record.numbers.Given as goal

-- with the numbers from this one on it is all of them
abbrev pub invariant-numbers : goal.invariant-numbers
invariant-numbers l = Made (λ j. meant.number (l.first + j)) l.count l.place l.instances.items
