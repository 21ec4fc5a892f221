-- Encodings by their numbers.
use Rattle.std.specs.Prelude.{◌≡◌, ℕ, List, ℤ, ◌||◌, if◌then◌else◌, Option, Some, None}
use Rattle.dr_meaning.specs.Schema.{Kind, bool_kind}
use Rattle.dr_meaning.specs.Record.{Value}
use Rattle.dr_formats.specs.Page.{encoded_values, is_number, plain_encoding, plain_dictionary_encoding, rle_encoding, rle_dictionary_encoding}
use Rattle.dr_page.specs.declared.encoding.ValueEncoding.{ValueEncoding}

-- how values with this encoding are read, if they are
abbrev pub encoding_of : ℤ → Option ValueEncoding
encoding_of z =
    if is_number plain_encoding z then Some ValueEncoding.Plain
    else (if is_number plain_dictionary_encoding z || is_number rle_dictionary_encoding z then Some ValueEncoding.Dictionary
    else (if is_number rle_encoding z then Some ValueEncoding.Hybrid
    else None))

-- values of this kind are read so
abbrev pub IsFor : ValueEncoding → Kind → ℤ → Type 0
IsFor e k z = (encoding_of z ≡ Some e) × (e ≡ ValueEncoding.Hybrid → k ≡ bool_kind)

-- no bytes have values of this kind, not even none
abbrev pub HasNoValues : Kind → ℤ → Type 0
HasNoValues k z = (d : List Value) (n : ℕ) (bytes : List ℕ) → encoded_values z k d n bytes ≡ None
