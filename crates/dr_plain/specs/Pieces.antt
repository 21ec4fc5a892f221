-- Values in PLAIN that are read a piece at a time.
use Rattle.std.specs.Prelude.{◌≡◌, ◌+◌, ◌/◌, ◌^◌, ℕ, List, ◌++◌, length, drop, map, Option, None, Result, Ok, Err}
use Rattle.std.specs.Borrow.{Bor}
use Rattle.dr_meaning.specs.Schema.{Kind, bool_kind, int32_kind, int64_kind, text_kind}
use Rattle.dr_meaning.specs.Record.{Value}
use Rattle.dr_formats.specs.Reading.{got}
use Rattle.dr_formats.specs.LittleEndian.{little_endian, unpacked}
use Rattle.dr_formats.specs.Plain.{plain, truth_of_bit}
use Rattle.dr_plain.specs.declared.values.TextPlace.{TextPlace}
use Rattle.dr_plain.specs.declared.values.PlainFault.{PlainFault}
use Rattle.dr_plain.specs.declared.plain_reader.PlainReader.{PlainReader}
use Rattle.dr_plain.specs.Views.{text_values, IsFaultOf}

-- the truth values of so many bits of bytes, from this bit on
abbrev pub bits_of : List ℕ → ℕ → ℕ → List Value
bits_of bytes start n = map truth_of_bit (unpacked n 1 (little_endian bytes / 2 ^ start))

-- a reader that gave these values of a kind from the front of bytes stands behind them: at the bit, or at the byte
abbrev pub StandsBehind : Kind → List ℕ → List Value → List ℕ → PlainReader → Type 0
StandsBehind bool_kind bytes given rest r = r.place ≡ length given
StandsBehind int32_kind bytes given rest r = rest ≡ drop r.place bytes
StandsBehind int64_kind bytes given rest r = rest ≡ drop r.place bytes
StandsBehind text_kind bytes given rest r = rest ≡ drop r.place bytes

-- why a reader gives no values any more, where it is so
abbrev pub refused_of : PlainReader → Option PlainFault
refused_of r = r.refused

-- a reader that gave these values, with which the bytes begin, and refused nothing
pub record HasGiven (k : Kind) (bytes : List ℕ) (given : List Value) (r : PlainReader) : Type 0 where
  pub rest : List ℕ
  pub read : plain k (length given) bytes ≡ got given rest
  pub stands : StandsBehind k bytes given rest r
  pub unrefused : refused_of r ≡ None

-- n more values joined those before; or all that were asked for, with them, have the fault
abbrev pub GivesMore : {A : Type 0} → Kind → List ℕ → List Value → ℕ → List Value → List Value → PlainReader → Result A PlainFault → Type 0
GivesMore k bytes given n before after r (Ok a) = (more : List Value) × (length more ≡ n) × (after ≡ before ++ more) × HasGiven k bytes (given ++ more) r
GivesMore k bytes given n before after r (Err e) = IsFaultOf e (plain k (length given + n) bytes)

-- the same of n more texts, whose places are those of the bytes that are answered
abbrev pub GivesTexts : List ℕ → List Value → ℕ → List TextPlace → PlainReader → Result (Bor (List ℕ)) PlainFault → Type 0
GivesTexts bytes given n places r (Ok piece) = (length places ≡ n) × HasGiven text_kind bytes (given ++ text_values piece.now places) r
GivesTexts bytes given n places r (Err e) = IsFaultOf e (plain text_kind (length given + n) bytes)
