-- What stands before the fault of a struct in the compact protocol, and what may follow it.
use Rattle.std.specs.Prelude.{◌≡◌, ◌⊎◌, ℕ, suc, ◌-◌, ◌≤◌, List, [], ◌∷◌, ◌++◌, pos}
use Rattle.dr_formats.specs.Reading.{got, refused}
use Rattle.dr_formats.specs.Compact.{CompactFault, malformed, too_deep, greatest_nesting, Struct, value_of, struct_of, read_struct}
use Rattle.dr_formats.specs.CompactGrammar.{SpellsFields}

-- the bytes begin a struct inside which at most so many structs, lists, sets and maps stand in one another: with more bytes they spell it
abbrev pub BeginsStruct : ℕ → List ℕ → Type 0
BeginsStruct n bytes = (more : List ℕ) × (s : Struct) × SpellsFields n (bytes ++ more) (pos 0) s

-- the bytes before a fault begin a struct, which may nest one deeper than is read
abbrev pub BytesBeforeFaultGoOn : Type 0
BytesBeforeFaultGoOn = (bytes rest : List ℕ) (e : CompactFault) → read_struct bytes ≡ refused e rest
    → (before : List ℕ) × (bytes ≡ before ++ rest) × BeginsStruct greatest_nesting before

-- and one that is read, where the same fault is told with a limit of one less; so it is with any limit and the next
abbrev pub BytesGoOnOneDeeper : Type 0
BytesGoOnOneDeeper = (n : ℕ) (bytes rest : List ℕ) (e : CompactFault) → struct_of (value_of n) bytes ≡ refused e rest
    → (before : List ℕ) × (bytes ≡ before ++ rest) × BeginsStruct (suc n) before

-- with a malformed byte no struct goes on, however deep it nests
abbrev pub MalformedEndsStructs : Type 0
MalformedEndsStructs = (before rest : List ℕ) (b : ℕ) → read_struct (before ++ b ∷ rest) ≡ refused malformed (b ∷ rest)
    → (n : ℕ) → BeginsStruct n (before ++ b ∷ []) → ⊥

-- bytes that are malformed are so at the same place with each greater limit of nesting
abbrev pub MalformedStays : Type 0
MalformedStays = (bytes rest : List ℕ) (n : ℕ) → greatest_nesting - 1 ≤ n → read_struct bytes ≡ refused malformed rest
    → struct_of (value_of n) bytes ≡ refused malformed rest

-- the bytes before a value that is too deep begin no struct that is read, whatever that value is
abbrev pub TooDeepEndsStructs : Type 0
TooDeepEndsStructs = (before rest : List ℕ) → read_struct (before ++ rest) ≡ refused too_deep rest → BeginsStruct (greatest_nesting - 1) before → ⊥

-- bytes that spell a struct, however deep it nests, are read as that struct, or refused for its depth alone
abbrev pub DepthAloneIsRefused : Type 0
DepthAloneIsRefused = (n : ℕ) (bytes : List ℕ) (s : Struct) → SpellsFields n bytes (pos 0) s
    → (read_struct bytes ≡ got s []) ⊎ ((rest : List ℕ) × (read_struct bytes ≡ refused too_deep rest))
