-- Laws of variable-length numbers.
use Rattle.std.specs.Prelude.{◌≡◌, ◌↔◌, ℕ, ◌<◌, ◌≤◌, ◌^◌, List, ◌++◌, length, ℤ}
use Rattle.dr_formats.specs.Reading.{IsReadAs, got}
use Rattle.dr_formats.specs.Varint.{read_varint, varint_bytes, zigzag, from_zigzag, SpellsNumber}

-- a number and a rest are read exactly where a front of the bytes spells the number and the rest is what follows
abbrev pub VarintIsReadExactly : Type 0
VarintIsReadExactly = (bytes rest : List ℕ) (n : ℕ) → (read_varint bytes ≡ got n rest) ↔ ((front : List ℕ) × (bytes ≡ front ++ rest) × SpellsNumber front n)

-- what is written for a number is read as that number, whatever follows it
abbrev pub WrittenVarintIsRead : Type 0
WrittenVarintIsRead = (n : ℕ) → n < 2 ^ 64 → IsReadAs read_varint (varint_bytes n) n

-- no spelling of a number is shorter than the one that is written
abbrev pub WrittenVarintIsShortest : Type 0
WrittenVarintIsShortest = (bytes : List ℕ) (n : ℕ) → SpellsNumber bytes n → length (varint_bytes n) ≤ length bytes

-- a signed number is that of its zigzag
abbrev pub ZigzagIsUndone : Type 0
ZigzagIsUndone = (z : ℤ) → from_zigzag (zigzag z) ≡ z
