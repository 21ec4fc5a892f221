use Rattle.std.proofs.Common.{◌≡◌, map, take}
use Rattle.dr_plain.specs.Views.{int64_of}
use Rattle.dr_plain.proofs.reading.fill_int64s.Given as goal

abbrev pub invariant-numbers : goal.invariant-numbers
invariant-numbers l = take l.index l.out ≡ map int64_of (take l.index l.numbers)
