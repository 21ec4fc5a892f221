-- A law of scans: what is true of a tablet with one copy is true of a tablet with more.
use Rattle.std.specs.Prelude.{◌≡◌, ℕ, List, [], ◌∷◌, Option, ◌⊎◌}
use Rattle.dr_meaning.specs.Schema.{Schema}
use Rattle.dr_meaning.specs.Query.{Query}
use Rattle.dr_outside.specs.Link.{Files}
use Rattle.dr_partials.specs.Partials.{Partial}
use Rattle.dr_partials.specs.Rewriting.{leaf_query}
use Rattle.dr_reading.specs.Held.{Held, held_at}
use Rattle.dr_reading.specs.Truth.{IsTrueOf}
use Rattle.dr_scan.specs.Scans.{truth_at}

-- it is held at one of a tablet's copies
abbrev pub IsAmong : Held → List Held → Type 0
IsAmong h [] = ⊥
IsAmong h (k ∷ ks) = (k ≡ h) ⊎ IsAmong h ks

-- a piece that is true of a tablet of which one copy is at a path is true of each tablet of which a copy is there
abbrev pub TrueOfMoreCopies : Type 0
TrueOfMoreCopies = (s : Schema) (q : Query) (held : Option Files) (path : List ℕ) (all : List Held) (p : Partial) → IsAmong (held_at held path) all
    → IsTrueOf (truth_at s q held path) p → IsTrueOf (record { schema = s; query = leaf_query q; held = all }) p
