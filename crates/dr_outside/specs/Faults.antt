-- How a count moves. It stands still at 2^64 - 1.
use Rattle.std.specs.Prelude.{ℕ, ◌+◌, ◌-◌, ◌^◌, ◌≤◌, nat_lt, if◌then◌else◌}

-- the count after one more; it never falls
abbrev pub raised : ℕ → ℕ
raised count = if nat_lt count (2 ^ 64 - 1) then count + 1 else count

-- the count rose between two moments, or stands at its last value
abbrev pub Rose : ℕ → ℕ → Type 0
Rose before after = raised before ≤ after
