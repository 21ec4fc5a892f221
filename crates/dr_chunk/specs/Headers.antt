-- Page headers as they are read.
use Rattle.std.specs.Prelude.{ℕ, List, ◌++◌, ⊤}
use Rattle.dr_formats.specs.Reading.{Reading, got, refused}
use Rattle.dr_formats.specs.Chunk.{page_header}
use Rattle.dr_chunk.specs.declared.header.HeaderFault.{HeaderFault}

-- nothing was read
abbrev pub IsRefused : {E A : Type 0} → Reading E A → Type 0
IsRefused (got a rest) = ⊥
IsRefused (refused e rest) = ⊤

-- bytes begin with no header: by themselves, where they begin with no struct; whatever follows them, where they begin with one
abbrev pub IsHeaderFault : HeaderFault → List ℕ → Type 0
IsHeaderFault HeaderFault.NoMemory bytes = ⊤
IsHeaderFault HeaderFault.NoStruct bytes = IsRefused (page_header bytes)
IsHeaderFault HeaderFault.NoHeader bytes = (more : List ℕ) → IsRefused (page_header (bytes ++ more))
