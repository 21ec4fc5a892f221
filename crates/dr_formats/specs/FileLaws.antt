-- Laws of files and causes.
use Rattle.std.specs.Prelude.{◌≡◌, ◌⊎◌, ℕ, List, Some, None}
use Rattle.dr_meaning.specs.Schema.{Schema}
use Rattle.dr_meaning.specs.Path.{Leaf}
use Rattle.dr_meaning.specs.Record.{Node}
use Rattle.dr_formats.specs.File.{FileCause, bad_data, HasCause, IsFileOf, known_cause}

-- the cause that the test knows of bytes holds
abbrev pub KnownCauseHolds : Type 0
KnownCauseHolds = (bytes : List ℕ) (s : Schema) (F : List Leaf) (c : FileCause) → known_cause bytes F ≡ Some c → HasCause bytes s F c

-- bytes have at most one cause
abbrev pub OneCause : Type 0
OneCause = (bytes : List ℕ) (s : Schema) (F : List Leaf) (c d : FileCause) → HasCause bytes s F c → HasCause bytes s F d → c ≡ d

-- a file of some records has none
abbrev pub FileHasNoCause : Type 0
FileHasNoCause = (bytes : List ℕ) (s : Schema) (F : List Leaf) (R : List Node) (c : FileCause) → IsFileOf bytes s F R → HasCause bytes s F c → ⊥

-- a cause that holds is the one that the test knows, but for causes of data that need records to be seen
abbrev pub CauseIsKnown : Type 0
CauseIsKnown = (bytes : List ℕ) (s : Schema) (F : List Leaf) (c : FileCause) → HasCause bytes s F c → (known_cause bytes F ≡ Some c)
    ⊎ ((c ≡ bad_data) × (known_cause bytes F ≡ None))
