-- Leaves on which something depends that is read inside an instance.
use Rattle.std.specs.Prelude.{◌≡◌, ◌⊎◌, ℕ, List, [], ◌∷◌, true, false, ◌==◌}
use Rattle.dr_meaning.specs.Schema.{Shape}
use Rattle.dr_meaning.specs.Path.{Step, is_shape_path}
use Rattle.dr_meaning.specs.Record.{Instance}
use Rattle.dr_meaning.specs.Rows.{value_in}
use Rattle.dr_meaning.specs.Automaton.{Pick}
use Rattle.dr_moves.specs.Context.{Context}
use Rattle.dr_moves.specs.Together.{Together}

-- none of these picks is that of leaf i
abbrev pub Without : ℕ → List Pick → Type 0
Without i [] = Unit {0}
Without i (g ∷ G) = ((g.index == i) ≡ false) × Without i G

-- one of them is, with this rest of its path
abbrev pub Only : ℕ → List Step → List Pick → Type 0
Only i p [] = ⊥
Only i p (g ∷ G) = (((g.index == i) ≡ true) × (g.rest ≡ p) × Without i G) ⊎ (((g.index == i) ≡ false) × Only i p G)

-- leaves on which something depends: below the instance, read together with leaf i; or not below it
pub data Readers (i : ℕ) (h : Shape) (G : List Pick) (p : List Step) : List ℕ → Type 0 where
  no_reader : Readers i h G p []
  below : (k : ℕ) (q : List Step) (K : List ℕ) → Only k q G → is_shape_path h q ≡ true → Together (k ≡ i) (Unit {0}) q p → Readers i h G p K → Readers i h G p (k ∷ K)
  outside : (k : ℕ) (K : List ℕ) → Without k G → Readers i h G p K → Readers i h G p (k ∷ K)

-- a context has the values of a row of the instance below it, and those from before outside of it
abbrev pub IsRowInside : (i : ℕ) (h : Shape) (G : List Pick) (p : List Step) (c : Context) (K : List ℕ) → Readers i h G p K → Context → Instance → Type 0
IsRowInside i h G p c _ no_reader d y = Unit {0}
IsRowInside i h G p c _ (below k q K o u t r) d y = (d k ≡ value_in q y) × IsRowInside i h G p c K r d y
IsRowInside i h G p c _ (outside k K w r) d y = (d k ≡ c k) × IsRowInside i h G p c K r d y
