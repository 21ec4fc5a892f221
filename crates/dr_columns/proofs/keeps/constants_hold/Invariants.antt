use Rattle.std.proofs.Common.{◌≡◌, take, true}
use Rattle.dr_condition.specs.Parted.{constants_hold}
use Rattle.dr_columns.proofs.keeps.constants_hold.Given as goal

-- those before this one hold
abbrev pub invariant-tests : goal.invariant-tests
invariant-tests l = constants_hold (take l.test-index l.tests) ≡ true
