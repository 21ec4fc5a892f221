use Rattle.std.proofs.Common.{◌≡◌, map, take}
use Rattle.dr_levels.specs.Views.{triplets_view}
use Rattle.dr_levels.specs.Apart.{repetitions}
use Rattle.dr_rows_beside.specs.Judging.{narrowed_by}
use Rattle.dr_rows_beside.proofs.judging.take_tests.Given as goal

-- the tests before this one are taken
abbrev pub invariant-tests : goal.invariant-tests
invariant-tests l = l.bits ≡ narrowed_by (map triplets_view l.columns) (repetitions l.levels) (take l.test-index l.tests) l.fn.bits
