use Rattle.std.proofs.Common.{◌≡◌, take, fold}
use Rattle.std.specs.Int.{int_max}
use Rattle.dr_group.proofs.taking.greatest_of.Given as goal

-- the greatest of those before this one
abbrev pub invariant-rest : goal.invariant-rest
invariant-rest l = l.greatest ≡ fold int_max l.initial.greatest (take l.number-index l.rest)
