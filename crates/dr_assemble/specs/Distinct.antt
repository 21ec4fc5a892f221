-- Strips of leaves that come once each.
use Rattle.std.specs.Prelude.{◌≡◌, List, [], ◌∷◌, Bool, true, false, Option, Some, None}
use Rattle.dr_meaning.specs.Path.{same_path}
use Rattle.dr_assemble.specs.Restoring.{Strip}

-- whether a strip is of the same leaf as the last that was kept
abbrev pub is_again : Option Strip → Strip → Bool
is_again None s = false
is_again (Some k) s = same_path k.rest s.rest

-- of strips behind the last that was kept those are kept that are of another leaf than it; none are where a strip that isn't kept has other triplets
pub data AreDistinct : Option Strip → List Strip → Option (List Strip) → Type 0 where
  no_more : (k : Option Strip) → AreDistinct k [] (Some [])
  kept : (k : Option Strip) (s : Strip) (S D : List Strip) → is_again k s ≡ false → AreDistinct (Some s) S (Some D) → AreDistinct k (s ∷ S) (Some (s ∷ D))
  kept_in_vain : (k : Option Strip) (s : Strip) (S : List Strip) → is_again k s ≡ false → AreDistinct (Some s) S None → AreDistinct k (s ∷ S) None
  passed : (k s : Strip) (S : List Strip) (o : Option (List Strip)) → same_path k.rest s.rest ≡ true → k.triplets ≡ s.triplets → AreDistinct (Some k) S o
      → AreDistinct (Some k) (s ∷ S) o
  differs : (k s : Strip) (S : List Strip) → same_path k.rest s.rest ≡ true → (k.triplets ≡ s.triplets → ⊥) → AreDistinct (Some k) (s ∷ S) None
