-- What values and faults stand for.
use Rattle.std.specs.Prelude.{◌≡◌, ◌≤◌, ◌+◌, ℕ, ℤ, List, map, take, drop, length, ◌++◌, Option, Some, None, IfSome, ⊤}
use Rattle.std.specs.Str.{IsUtf8}
use Rattle.std.specs.Int.{w64, from_le_bytes, cast_signed}
use Rattle.std.specs.List.{All}
use Rattle.dr_meaning.specs.Record.{Value, bool_value, int_value, text_value}
use Rattle.dr_formats.specs.Reading.{Reading}
use Rattle.dr_formats.specs.Plain as plain
use Rattle.dr_bytes.specs.Numbers.{IsFault}
use Rattle.dr_nested.specs.declared.shape.Kind.{Kind}
use Rattle.dr_plain.specs.declared.values.TextPlace.{TextPlace}
use Rattle.dr_plain.specs.declared.values.Values.{Values}
use Rattle.dr_plain.specs.declared.values.PlainFault.{PlainFault}

-- the text at a place of bytes
abbrev pub text_at : List ℕ → TextPlace → List ℕ
text_at bytes p = take p.length (drop p.start bytes)

-- the values, of which texts stand in these bytes
abbrev pub text_values : List ℕ → List TextPlace → List Value
text_values bytes ps = map (λ p. text_value (text_at bytes p)) ps

abbrev pub values_view : List ℕ → Values → List Value
values_view bytes (Values.Bools v) = map bool_value v.items
values_view bytes (Values.Integers v) = map int_value v.items
values_view bytes (Values.Texts v) = text_values bytes v.items

-- a text's place lies within the bytes, and it is UTF-8
abbrev pub IsText : List ℕ → TextPlace → Type 0
IsText bytes p = (p.start + p.length ≤ length bytes) × IsUtf8 (text_at bytes p)

abbrev pub AreTexts : List ℕ → List TextPlace → Type 0
AreTexts bytes ps = All (IsText bytes) ps

-- the same of all texts among values
abbrev pub HasTexts : List ℕ → Values → Type 0
HasTexts bytes (Values.Bools v) = ⊤
HasTexts bytes (Values.Integers v) = ⊤
HasTexts bytes (Values.Texts v) = AreTexts bytes v.items

-- want of memory stands for no fault of the definitions
abbrev pub plain_fault_view : PlainFault → Option plain.PlainFault
plain_fault_view PlainFault.NoMemory = None
plain_fault_view PlainFault.Short = Some plain.too_short
plain_fault_view PlainFault.BadText = Some plain.bad_text

-- a fault is that of reading; want of memory may come in place of what is read
abbrev pub IsFaultOf : {A : Type 0} → PlainFault → Reading plain.PlainFault A → Type 0
IsFaultOf e r = IfSome (plain_fault_view e) (λ f. IsFault f r)

-- the values are there, and were joined to those before
abbrev pub Appends : Option (List Value) → List Value → List Value → Type 0
Appends None before after = ⊥
Appends (Some vs) before after = after ≡ before ++ vs

-- the signed number of eight bytes
abbrev pub int64_of : List ℕ → ℤ
int64_of bytes = cast_signed w64 (from_le_bytes w64 bytes)

-- the values so far are still there, with others behind them
abbrev pub BeginsWith : {A : Type 0} → List A → List A → Type 0
BeginsWith {A = A} before after = (more : List A) × (after ≡ before ++ more)

-- the values are held as those of the kind are
abbrev pub IsOfKind : Kind → Values → Type 0
IsOfKind Kind.Bool (Values.Bools v) = ⊤
IsOfKind Kind.I32 (Values.Integers v) = ⊤
IsOfKind Kind.I64 (Values.Integers v) = ⊤
IsOfKind Kind.Text (Values.Texts v) = ⊤
IsOfKind k v = ⊥
