-- The leaves that are read beside one.
use Rattle.std.specs.Prelude.{◌≡◌, ◌⊎◌, ℕ, List, [], ◌∷◌, ◌++◌, Bool, true, false, ◌||◌, ◌==◌, nat_lt, if◌then◌else◌, Some}
use Rattle.std.specs.List.{slice_get, slice_index_or}
use Rattle.dr_meaning.specs.Path.{Step, begins_with, chain_end, max_repetition}
use Rattle.dr_moves.specs.Selection.{all_differ}
use Rattle.dr_rows_beside.specs.declared.source.Beside.{Beside}
use Rattle.dr_rows_beside.specs.RecordRows.{AreBeside}

-- whether a leaf is among these
abbrev pub is_among : ℕ → List Beside → Bool
is_among k [] = false
is_among k (b ∷ bs) = (b.leaf == k) || is_among k bs

-- a leaf of these, read beside another: it goes on with its own repeated fields
abbrev pub beside_of : List (List Step) → ℕ → Beside
beside_of F k = record { leaf = k; depth = max_repetition (slice_index_or F k []) }

-- one more, if it is another one than this leaf and those that are there
abbrev pub with_beside : List (List Step) → ℕ → List Beside → ℕ → List Beside
with_beside F leaf bs k = if (k == leaf) || is_among k bs then bs else bs ++ beside_of F k ∷ []

-- and so each of these
abbrev pub all_beside : List (List Step) → ℕ → List Beside → List ℕ → List Beside
all_beside F leaf bs [] = bs
all_beside F leaf bs (k ∷ ks) = all_beside F leaf (with_beside F leaf bs k) ks

-- its number is among so many
abbrev pub is_numbered : ℕ → ℕ → Bool
is_numbered n k = nat_lt k n

-- leaves of these whose chains begin that of a path
abbrev pub AreOnItsChain : List (List Step) → List Step → List ℕ → Type 0
AreOnItsChain F p [] = Unit {0}
AreOnItsChain F p (k ∷ ks) = ((q : List Step) × (slice_get F k ≡ Some q) × (begins_with (chain_end q) (chain_end p) ≡ true)) × AreOnItsChain F p ks

-- each of these leaves is that one, or one that is read beside it
abbrev pub AreReadBeside : ℕ → List Beside → List ℕ → Type 0
AreReadBeside leaf bs [] = Unit {0}
AreReadBeside leaf bs (k ∷ ks) = ((k ≡ leaf) ⊎ ((i : ℕ) × (b : Beside) × (slice_get bs i ≡ Some b) × (b.leaf ≡ k))) × AreReadBeside leaf bs ks

-- the leaves that are read for one of a plan's, the last on the chain, can be read beside it
abbrev pub SourcesAreBeside : Type 0
SourcesAreBeside = (F : List (List Step)) (leaf : ℕ) (p : List Step) (ks : List ℕ) → all_differ F ≡ true → slice_get F leaf ≡ Some p → AreOnItsChain F p ks
    → AreBeside F leaf p (all_beside F leaf [] ks) × AreReadBeside leaf (all_beside F leaf [] ks) ks
