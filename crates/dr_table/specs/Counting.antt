-- A count that stands still at the greatest number of 64 bits.
use Rattle.std.specs.Prelude.{ℕ, ◌+◌, ◌-◌, ◌^◌, min}

-- a count that goes on by some steps
abbrev pub counted : ℕ → ℕ → ℕ
counted before steps = min (before + steps) (2 ^ 64 - 1)
