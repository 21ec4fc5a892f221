-- Laws of structs in the compact protocol.
use Rattle.std.specs.Prelude.{◌≡◌, ◌↔◌, ℕ, List, [], ◌∷◌, ◌++◌, true}
use Rattle.dr_formats.specs.Reading.{IsReadAs, got, refused}
use Rattle.dr_formats.specs.Compact.{CompactFault, Struct, read_struct, struct_bytes, is_tree}
use Rattle.dr_formats.specs.CompactGrammar.{SpellsStruct}

-- a struct and a rest are read exactly where a front of the bytes spells the struct and the rest is what follows
abbrev pub StructIsReadExactly : Type 0
StructIsReadExactly = (bytes rest : List ℕ) (s : Struct) → (read_struct bytes ≡ got s rest) ↔ ((front : List ℕ) × (bytes ≡ front ++ rest)
    × SpellsStruct front s)

-- what is written for a struct spells it
abbrev pub WrittenStructIsSpelled : Type 0
WrittenStructIsSpelled = (s : Struct) → is_tree s ≡ true → SpellsStruct (struct_bytes s) s

-- and is read as that struct, whatever follows it
abbrev pub WrittenStructIsRead : Type 0
WrittenStructIsRead = (s : Struct) → is_tree s ≡ true → IsReadAs read_struct (struct_bytes s) s

-- of two fronts of the same bytes that spell structs, both are the same front and the same struct
abbrev pub FrontSpellsOneStruct : Type 0
FrontSpellsOneStruct = (front behind front′ behind′ : List ℕ) (s t : Struct) → front ++ behind ≡ front′ ++ behind′ → SpellsStruct front s
    → SpellsStruct front′ t → (front ≡ front′) × (s ≡ t)

-- whatever follows these bytes and the first of the rest, no front of all spells a struct; where there is no rest nothing is said
abbrev pub NoStructGoesOn : List ℕ → List ℕ → Type 0
NoStructGoesOn before [] = Unit {0}
NoStructGoesOn before (b ∷ rest) = (front behind other : List ℕ) (s : Struct) → front ++ behind ≡ before ++ b ∷ other → SpellsStruct front s → ⊥

-- a fault stands at the first byte that is at fault: the bytes before it alone have their fault at their end, and with it no struct goes on
abbrev pub FaultIsFirst : Type 0
FaultIsFirst = (bytes : List ℕ) (e : CompactFault) (rest : List ℕ) → read_struct bytes ≡ refused e rest → (before : List ℕ)
    × (bytes ≡ before ++ rest) × (read_struct before ≡ refused e []) × NoStructGoesOn before rest
