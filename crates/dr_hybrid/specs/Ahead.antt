-- The values ahead of a place in hybrid data.
use Rattle.std.specs.Prelude.{ℕ, zero, suc, ◌+◌, ◌-◌, ◌*◌, min, List, ◌++◌, length, drop, replicate, nat_le, if◌then◌else◌, Option, Some, None, option_map, []}
use Rattle.dr_formats.specs.LittleEndian.{little_endian, unpacked, bytes_for}
use Rattle.dr_formats.specs.Hybrid.{hybrid}

-- so many more of a value, and the runs behind them
abbrev pub repeat_ahead : ℕ → ℕ → ℕ → ℕ → List ℕ → Option (List ℕ)
repeat_ahead width value left n bytes = option_map (λ more. replicate (min left n) value ++ more) (hybrid width (n - min left n) bytes)

-- so many packed values behind the first few of a group with which the bytes begin, and the runs behind them
abbrev pub values_behind : ℕ → ℕ → ℕ → ℕ → List ℕ → Option (List ℕ)
values_behind width skipped count n bytes = if nat_le (bytes_for ((skipped + count) * width)) (length bytes)
    then option_map (λ more. drop skipped (unpacked (skipped + count) width (little_endian bytes)) ++ more) (hybrid width (n - count) (drop (bytes_for ((skipped + count) * width)) bytes))
    else None

-- groups of packed values with which the bytes begin, of the first of which some are read, and the runs behind them; of the bytes nothing is asked
-- where no value is wanted
abbrev pub groups_ahead : ℕ → ℕ → ℕ → ℕ → List ℕ → Option (List ℕ)
groups_ahead width groups skipped zero bytes = Some []
groups_ahead width groups skipped (suc n) bytes = values_behind width skipped (min (8 * groups - skipped) (suc n)) (suc n) bytes
