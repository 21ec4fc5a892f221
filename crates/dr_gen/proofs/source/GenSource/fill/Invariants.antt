use Rattle.std.proofs.Common.{◌≡◌, ◌≤◌, ◌-◌, ◌++◌, length, take}
use Rattle.dr_gen.specs.Left.{left_of}
use Rattle.dr_gen.proofs.source.GenSource.fill.Given as goal

-- what was given and what is left is what was left
abbrev pub invariant-lines : goal.invariant-lines
invariant-lines l = record {
  within : l.filled ≤ length l.buf;
  bytes : take l.filled l.buf ++ left_of l.self ≡ left_of l.fn.self;
}

abbrev pub decreases-lines : goal.decreases-lines
decreases-lines l = length l.buf - l.filled
