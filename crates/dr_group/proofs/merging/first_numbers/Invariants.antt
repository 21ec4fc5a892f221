use Rattle.std.proofs.Common.{◌≡◌}
use Rattle.std.specs.List.{range_with_len}
use Rattle.dr_group.proofs.merging.first_numbers.Given as goal

-- the numbers before this one
abbrev pub invariant-numbers : goal.invariant-numbers
invariant-numbers l = l.numbers.items ≡ range_with_len 0 l.number
