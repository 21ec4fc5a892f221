use Rattle.std.proofs.Common.{◌≡◌, ◌%◌, ◌/◌, map, take}
use Rattle.dr_levels.proofs.apart.part.Given as goal

-- the levels before this one are put
abbrev pub invariant-levels : goal.invariant-levels
invariant-levels l = record {
  repetitions : take l.at l.repetitions ≡ map (λ n. n % 256) (take l.at l.both);
  definitions : take l.at l.definitions ≡ map (λ n. n / 256) (take l.at l.both);
}
