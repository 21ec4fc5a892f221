use Rattle.std.proofs.Common.{◌≡◌, take, fold}
use Rattle.std.specs.Int.{int_min}
use Rattle.dr_group.proofs.taking.least_of.Given as goal

-- the least of those before this one
abbrev pub invariant-rest : goal.invariant-rest
invariant-rest l = l.least ≡ fold int_min l.initial.least (take l.number-index l.rest)
