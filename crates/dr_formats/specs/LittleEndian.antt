-- Numbers in a fixed number of bytes, the lowest first, and values packed into bits, the lowest first.
use Rattle.std.specs.Prelude.{ℕ, zero, suc, ◌+◌, ◌*◌, ◌/◌, ◌%◌, ◌^◌, List, [], ◌∷◌}

-- the number of bytes, the lowest first
abbrev pub little_endian : List ℕ → ℕ
little_endian [] = 0
little_endian (b ∷ bs) = b + 256 * little_endian bs

-- a number in so many bytes
abbrev pub little_endian_bytes : ℕ → ℕ → List ℕ
little_endian_bytes zero x = []
little_endian_bytes (suc k) x = (x % 256) ∷ little_endian_bytes k (x / 256)

-- so many values of this many bits, from the lowest bits of a number on
abbrev pub unpacked : ℕ → ℕ → ℕ → List ℕ
unpacked zero width x = []
unpacked (suc n) width x = (x % 2 ^ width) ∷ unpacked n width (x / 2 ^ width)

-- the number with these values of this many bits, the first in the lowest
abbrev pub packed : ℕ → List ℕ → ℕ
packed width [] = 0
packed width (v ∷ vs) = v + 2 ^ width * packed width vs

-- the bytes that so many bits take
abbrev pub bytes_for : ℕ → ℕ
bytes_for bits = (bits + 7) / 8
