-- Values of a column's leaf in the encodings PLAIN and RLE_DICTIONARY (Apache Parquet, Encodings, "Plain", "Dictionary Encoding").
use Rattle.std.specs.Prelude.{ℕ, zero, suc, ◌-◌, ◌/◌, ◌^◌, List, [], ◌∷◌, ◌++◌, map, length, Bool, true, ◌&&◌, ◌==◌, nat_lt, nat_le, if◌then◌else◌, ℤ}
use Rattle.std.specs.Prelude.{pos, negsuc, Option, Some, None, option_map, option_and_then}
use Rattle.std.specs.Str.{is_utf8}
use Rattle.dr_meaning.specs.Schema.{Kind, bool_kind, int32_kind, int64_kind, text_kind}
use Rattle.dr_meaning.specs.Record.{Value, bool_value, int_value, text_value, is_of_kind}
use Rattle.dr_formats.specs.Reading.{Reading, got, refused, Reader, give, ◌>>=◌, bytes_of}
use Rattle.dr_formats.specs.LittleEndian.{little_endian, little_endian_bytes, unpacked, packed, bytes_for}
use Rattle.dr_formats.specs.Hybrid.{hybrid}

-- too few bytes; a text that isn't UTF-8
pub data PlainFault : Type 0 where
  too_short : PlainFault
  bad_text : PlainFault

-- ---- numbers in two's complement

-- the number of so many bits in two's complement
abbrev pub from_complement : ℕ → ℕ → ℤ
from_complement bits x = if nat_lt x (2 ^ (bits - 1)) then pos x else negsuc (2 ^ bits - 1 - x)

-- the bits of a number, as a number that isn't negative
abbrev pub complement : ℕ → ℤ → ℕ
complement bits (pos n) = n
complement bits (negsuc n) = 2 ^ bits - 1 - n

-- ---- PLAIN

-- so many values, each read alike
abbrev pub repeatedly : {E A : Type 0} → Reader E A → ℕ → Reader E (List A)
repeatedly read zero = give []
repeatedly read (suc n) = do
  x ← read
  xs ← repeatedly read n
  give (x ∷ xs)

-- INT32 and INT64: a number of so many bits, little-endian
abbrev pub plain_number : ℕ → Reader PlainFault Value
plain_number bits = do
  b ← bytes_of too_short (bits / 8)
  give (int_value (from_complement bits (little_endian b)))

-- a text, if it is UTF-8
abbrev pub checked_text : List ℕ → Reader PlainFault Value
checked_text t = if is_utf8 t then give (text_value t) else refused bad_text

-- BYTE_ARRAY: a length of four bytes, then the bytes, which are UTF-8
abbrev pub plain_text : Reader PlainFault Value
plain_text = do
  b ← bytes_of too_short 4
  t ← bytes_of too_short (little_endian b)
  checked_text t

-- 1 for true
abbrev pub truth_of_bit : ℕ → Value
truth_of_bit x = bool_value (x == 1)

-- BOOLEAN: n truth values of one bit each, from the lowest on
abbrev pub plain_truths : ℕ → Reader PlainFault (List Value)
plain_truths n = do
  b ← bytes_of too_short (bytes_for n)
  give (map truth_of_bit (unpacked n 1 (little_endian b)))

-- n values of a kind, or the first fault
abbrev pub plain : Kind → ℕ → Reader PlainFault (List Value)
plain bool_kind n = plain_truths n
plain int32_kind n = repeatedly (plain_number 32) n
plain int64_kind n = repeatedly (plain_number 64) n
plain text_kind n = repeatedly plain_text n

-- the values of what was read
abbrev pub plain_read : Reading PlainFault (List Value) → Option (List Value)
plain_read (got vs rest) = Some vs
plain_read (refused e rest) = None

-- the n values with which the bytes begin
abbrev pub plain_values : Kind → ℕ → List ℕ → Option (List Value)
plain_values k n bytes = plain_read (plain k n bytes)

-- ---- dictionaries

-- the value at this index, from 0
abbrev pub nth_value : List Value → ℕ → Option Value
nth_value [] i = None
nth_value (v ∷ vs) zero = Some v
nth_value (v ∷ vs) (suc i) = nth_value vs i

-- the dictionary's values at these indices; none where one isn't below its size
abbrev pub pick : List Value → List ℕ → Option (List Value)
pick dictionary [] = Some []
pick dictionary (i ∷ is) = option_and_then (λ (v : Value). option_map (λ vs. v ∷ vs) (pick dictionary is)) (nth_value dictionary i)

-- one byte of width, at most 32, then hybrid data of indices; with no value wanted nothing is needed
abbrev pub dictionary_values : List Value → ℕ → List ℕ → Option (List Value)
dictionary_values dictionary zero bytes = Some []
dictionary_values dictionary (suc n) [] = None
dictionary_values dictionary (suc n) (width ∷ bytes) = if nat_le width 32 then option_and_then (pick dictionary) (hybrid width (suc n) bytes) else None

-- ---- what is written

-- 1 for true
abbrev pub bit_of : Value → ℕ
bit_of (bool_value true) = 1
bit_of v = 0

-- a number in so many bits
abbrev pub plain_number_bytes : ℕ → Value → List ℕ
plain_number_bytes bits (int_value z) = little_endian_bytes (bits / 8) (complement bits z)
plain_number_bytes bits v = []

-- a text behind its length
abbrev pub plain_text_bytes : Value → List ℕ
plain_text_bytes (text_value t) = little_endian_bytes 4 (length t) ++ t
plain_text_bytes v = []

-- the bytes of each value, one after another
abbrev pub joined : (Value → List ℕ) → List Value → List ℕ
joined f [] = []
joined f (v ∷ vs) = f v ++ joined f vs

-- the bytes that are written for values of a kind
abbrev pub plain_bytes : Kind → List Value → List ℕ
plain_bytes bool_kind vs = little_endian_bytes (bytes_for (length vs)) (packed 1 (map bit_of vs))
plain_bytes int32_kind vs = joined (plain_number_bytes 32) vs
plain_bytes int64_kind vs = joined (plain_number_bytes 64) vs
plain_bytes text_kind vs = joined plain_text_bytes vs

-- whether the length of a value, if it is a text, fits four bytes
abbrev pub has_short_text : Value → Bool
has_short_text (bool_value b) = true
has_short_text (int_value z) = true
has_short_text (text_value t) = nat_lt (length t) (2 ^ 32)

-- whether a value is of the kind and can be written
abbrev pub is_writable : Kind → Value → Bool
is_writable k v = is_of_kind k v && has_short_text v
