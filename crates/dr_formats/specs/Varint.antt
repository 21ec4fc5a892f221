-- Variable-length numbers (Thrift compact protocol, "Integer encoding": unsigned LEB128 and zigzag).
use Rattle.std.specs.Prelude.{◌≡◌, ◌<◌, ◌≤◌, length, Bool, true, false, nat_le, ℕ, zero, suc, ◌+◌, ◌*◌, ◌/◌, ◌%◌, ◌^◌, List, [], ◌∷◌, ◌&&◌, ◌==◌}
use Rattle.std.specs.Prelude.{nat_lt, if◌then◌else◌, ℤ, pos, negsuc}
use Rattle.dr_formats.specs.Reading.{got, refused, Reader}

-- ---- reading

-- a number below the bound in at most one byte more than the given number of bytes: seven bits a byte, the low part first, 128 more where another byte follows.
-- Given are the number so far and what a 1 in the next byte is worth. At the end of the bytes it is short; at the first byte with which there is no
-- such number, long.
abbrev pub varint_from : {E : Type 0} → E → E → ℕ → ℕ → ℕ → ℕ → Reader E ℕ
varint_from short long bound k sum worth [] = refused short []
varint_from short long bound zero sum worth (b ∷ bs) =
    if nat_lt (sum + b % 128 * worth) bound && nat_lt b 128 then got (sum + b % 128 * worth) bs
    else refused long (b ∷ bs)
varint_from short long bound (suc k) sum worth (b ∷ bs) =
    if nat_lt (sum + b % 128 * worth) bound
    then (if nat_lt b 128 then got (sum + b % 128 * worth) bs else varint_from short long bound k (sum + b % 128 * worth) (128 * worth) bs)
    else refused long (b ∷ bs)

-- a number below the bound, in at most 10 bytes
abbrev pub varint_below : {E : Type 0} → ℕ → E → E → Reader E ℕ
varint_below bound short long = varint_from short long bound 9 0 1

-- a number below 2^64, in at most 10 bytes
abbrev pub varint : {E : Type 0} → E → E → Reader E ℕ
varint short long = varint_below (2 ^ 64) short long

-- why there is no number: the bytes end before; nine bytes go on and the tenth is above 1
pub data VarintFault : Type 0 where
  varint_short : VarintFault
  varint_too_long : VarintFault

-- the number at the front of bytes, or why there is none
abbrev pub read_varint : Reader VarintFault ℕ
read_varint = varint varint_short varint_too_long

-- ---- writing

-- the shortest varint of a number, which is the one that is written
abbrev pub varint_bytes_from : ℕ → ℕ → List ℕ
varint_bytes_from zero n = n ∷ []
varint_bytes_from (suc k) n = if nat_lt n 128 then n ∷ [] else (128 + n % 128) ∷ varint_bytes_from k (n / 128)

-- the varint that is written for a number below 2^64
abbrev pub varint_bytes : ℕ → List ℕ
varint_bytes n = varint_bytes_from 9 n

-- ---- signed numbers

-- 0, -1, 1, -2, 2, .. as 0, 1, 2, 3, 4, ..
abbrev pub zigzag : ℤ → ℕ
zigzag (pos n) = 2 * n
zigzag (negsuc n) = 2 * n + 1

-- the number of a zigzag
abbrev pub from_zigzag : ℕ → ℤ
from_zigzag n = if n % 2 == 0 then pos (n / 2) else negsuc (n / 2)

-- ---- every spelling, as a relation between bytes and numbers

-- whether a varint ends with the bytes: 128 and more where another byte follows, less at the last
abbrev pub is_chain : List ℕ → Bool
is_chain [] = false
is_chain (b ∷ []) = nat_lt b 128
is_chain (b ∷ c ∷ bs) = nat_le 128 b && is_chain (c ∷ bs)

-- the number of a varint's bytes: seven bits of each, the low part first
abbrev pub seven_bits : List ℕ → ℕ
seven_bits [] = 0
seven_bits (b ∷ bs) = b % 128 + 128 * seven_bits bs

-- a varint of at most 10 bytes of a number below the bound
abbrev pub SpellsVarint : ℕ → List ℕ → ℕ → Type 0
SpellsVarint bound bytes n = (is_chain bytes ≡ true) × (length bytes ≤ 10) × (seven_bits bytes ≡ n) × (n < bound)

-- a varint of at most 10 bytes of a number below 2^64
abbrev pub SpellsNumber : List ℕ → ℕ → Type 0
SpellsNumber bytes n = SpellsVarint (2 ^ 64) bytes n

-- a varint of the zigzag of a signed number
abbrev pub SpellsSigned : ℕ → List ℕ → ℤ → Type 0
SpellsSigned bound bytes z = (n : ℕ) × SpellsVarint bound bytes n × (from_zigzag n ≡ z)
