-- Stretches of a file.
use Rattle.std.specs.Prelude.{ℕ, ◌+◌, ◌-◌, List, ◌++◌, length, take, drop}
use Rattle.dr_chunk.specs.declared.byte_range.ByteRange.{ByteRange}
use Rattle.dr_chunk.specs.declared.stretch.Stretch.{Stretch}

-- the range of the file
abbrev pub range_of : Stretch → ByteRange
range_of s = s.range

-- the bytes that are read ahead
abbrev pub pending : Stretch → List ℕ
pending s = drop s.from s.buffer.items

-- how many bytes are left, read ahead or not
abbrev pub left_count : Stretch → ℕ
left_count s = length (pending s) + (s.range.start + s.range.size - s.at)

-- the bytes that are left, where the file has these bytes
abbrev pub rest_in : List ℕ → Stretch → List ℕ
rest_in bytes s = pending s ++ take (s.range.start + s.range.size - s.at) (drop s.at bytes)
