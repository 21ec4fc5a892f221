use Rattle.std.proofs.Common.{◌<◌, length}
use Rattle.dr_rows_beside.specs.Makings.{IsLast}
use Rattle.dr_rows_beside.proofs.judging.last_test.Given as goal

-- none before this one reads a later leaf
abbrev pub invariant-tests : goal.invariant-tests
invariant-tests l = (l.best < length l.tests) × IsLast l.tests l.at l.best
