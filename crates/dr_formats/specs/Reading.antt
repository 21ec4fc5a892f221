-- Reading from the front of bytes.
use Rattle.std.specs.Prelude.{◌≡◌, ℕ, List, [], ◌∷◌, ◌++◌, length, take, drop, nat_le, if◌then◌else◌, Option, Some, None}

-- what comes of reading: a value and the bytes behind it, or what is wrong and the bytes from the place of the fault on
pub data Reading (E A : Type 0) : Type 0 where
  got : A → List ℕ → Reading E A
  refused : E → List ℕ → Reading E A

-- a form of bytes, by what comes of reading it from the front of any bytes
abbrev pub Reader : Type 0 → Type 0 → Type 0
Reader E A = List ℕ → Reading E A

-- a value, with no bytes read
abbrev pub give : {E A : Type 0} → A → Reader E A
give a bs = got a bs

-- what comes of going on behind a value
abbrev pub goes_on : {E A B : Type 0} → Reading E A → (A → Reader E B) → Reading E B
goes_on (got a bs) next = next a bs
goes_on (refused e bs) next = refused e bs

infixl 15 ◌>>=◌
-- one form and then, behind it, another that may depend on its value
abbrev pub ◌>>=◌ : {E A B : Type 0} → Reader E A → (A → Reader E B) → Reader E B
◌>>=◌ first next bs = goes_on (first bs) next

-- the byte at the front, where it stands for something; at the end of the bytes one fault, else the other at this byte
abbrev pub byte_meaning : {E A : Type 0} → E → ℕ → List ℕ → Option A → Reading E A
byte_meaning bad b bs None = refused bad (b ∷ bs)
byte_meaning bad b bs (Some a) = got a bs

-- one byte that stands for something
abbrev pub byte_as : {E A : Type 0} → E → E → (ℕ → Option A) → Reader E A
byte_as short bad f [] = refused short []
byte_as short bad f (b ∷ bs) = byte_meaning bad b bs (f b)

-- so many bytes
abbrev pub bytes_of : {E : Type 0} → E → ℕ → Reader E (List ℕ)
bytes_of short n bs = if nat_le n (length bs) then got (take n bs) (drop n bs) else refused short []

-- whether these bytes, whatever follows them, are read as this value
abbrev pub IsReadAs : {E A : Type 0} → Reader E A → List ℕ → A → Type 0
IsReadAs read bytes a = (rest : List ℕ) → read (bytes ++ rest) ≡ got a rest
