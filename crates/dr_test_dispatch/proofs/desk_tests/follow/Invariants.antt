use Rattle.std.specs.Prelude.{⊤}
use Rattle.dr_test_dispatch.proofs.desk_tests.follow.Given as goal

abbrev pub ghosts-run-N-Naming : goal.ghosts-run-N-Naming
ghosts-run-N-Naming g a = record { job = a.job; is_true = λ t r. ⊤ }

abbrev pub ghosts-run-B-Room : goal.ghosts-run-B-Room
ghosts-run-B-Room g a = record { table = a.ground.table }
