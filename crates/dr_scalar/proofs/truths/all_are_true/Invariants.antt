use Rattle.std.proofs.Common.{◌≡◌, drop}
use Rattle.dr_scalar.specs.OverSlots.{tests_over}
use Rattle.dr_scalar.specs.Slots.{slot_value}
use Rattle.dr_scalar.proofs.truths.all_are_true.Given as goal

-- all are true where those that are left are
abbrev pub invariant-tests : goal.invariant-tests
invariant-tests l = tests_over (slot_value l.row) (drop l.test-index l.tests) ≡ tests_over (slot_value l.row) l.tests
