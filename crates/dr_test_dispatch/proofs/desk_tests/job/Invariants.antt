use Rattle.std.proofs.Common.{◌≡◌, vec_len}
use Rattle.dr_test_dispatch.proofs.desk_tests.job.Given as goal

abbrev pub invariant-loop : goal.invariant-loop
invariant-loop l = vec_len l.leaves ≡ l.counter
