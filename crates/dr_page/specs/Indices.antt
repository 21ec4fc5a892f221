-- Indices of a dictionary.
use Rattle.std.specs.Prelude.{ℕ, zero, suc, List, [], ◌∷◌, nat_le, if◌then◌else◌, Option, Some, None}
use Rattle.dr_formats.specs.Hybrid.{hybrid}

-- the n indices of a dictionary's values with which bytes begin: a byte of width, at most 32, and hybrid data; for none no byte is needed
abbrev pub indices_ahead : ℕ → List ℕ → Option (List ℕ)
indices_ahead zero bytes = Some []
indices_ahead (suc n) [] = None
indices_ahead (suc n) (width ∷ bytes) = if nat_le width 32 then hybrid width (suc n) bytes else None
