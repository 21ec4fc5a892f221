-- The bytes of texts, whatever is in them.
use Rattle.std.specs.Prelude.{◌≡◌, ◌≤◌, ◌+◌, ℕ, List, length, drop, Bool, true, false}
use Rattle.std.specs.List.{All}
use Rattle.dr_meaning.specs.Record.{Value}
use Rattle.dr_formats.specs.Reading.{Reader, got, ◌>>=◌, bytes_of}
use Rattle.dr_formats.specs.LittleEndian.{little_endian}
use Rattle.dr_formats.specs.Plain.{PlainFault, too_short, repeatedly, plain_text}
use Rattle.dr_bytes.specs.Numbers.{IsFault}
use Rattle.dr_plain.specs.declared.values.TextPlace.{TextPlace}

-- a length of four bytes, then so many bytes
abbrev pub text_bytes : Reader PlainFault (List ℕ)
text_bytes = do
  b ← bytes_of too_short 4
  bytes_of too_short (little_endian b)

-- whether they are there, and what is behind them
abbrev pub Skips : List ℕ → List ℕ → Bool → Type 0
Skips before after true = (t : List ℕ) × (text_bytes before ≡ got t after)
Skips before after false = IsFault too_short (text_bytes before)

-- the bytes of the first n texts, or all of them: they spell the same texts, with the others behind, or have the same fault
pub record AreFrontTexts (n : ℕ) (bytes piece : List ℕ) : Type 0 where
  pub texts : (vs : List Value) (q : List ℕ) → repeatedly plain_text n piece ≡ got vs q → repeatedly plain_text n bytes ≡ got vs (drop (length piece) bytes)
  pub fault : (f : PlainFault) → IsFault f (repeatedly plain_text n piece) → IsFault f (repeatedly plain_text n bytes)
  pub within : length piece ≤ length bytes

-- each of these places ends at this one at most
abbrev pub AreWithin : ℕ → List TextPlace → Type 0
AreWithin end ps = All (λ p. p.start + p.length ≤ end) ps
