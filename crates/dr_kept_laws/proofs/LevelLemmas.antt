-- A path whose repeated fields are all on another path, step by step.
use Rattle.std.specs.Prelude.{◌≡◌, List, [], ◌∷◌, Bool, true, false, ◌&&◌, ◌==◌}
use Rattle.std.proofs.Common.{refl, sym, true≢false}
use Rattle.std.proofs.lemmas.Bool.{and_parts}
use Rattle.dr_meaning.specs.Schema.{Repetition, required, optional, repeated, is_repeated}
use Rattle.dr_meaning.specs.Path.{Step, chain_end, up_to, begins_with}

abbrev step_of : Step → Repetition → Step
step_of s r = record { place = s.place; repetition = r }

-- a path without repeated fields has none at its first step and none behind it
pub none_repeated : (s : Step) (q : List Step) → chain_end (s ∷ q) ≡ [] → (is_repeated s.repetition ≡ false) × (chain_end q ≡ [])
none_repeated s q h = by_level (chain_end q) s.repetition h
  where
    by_level : (L : List Step) (r : Repetition) → up_to (step_of s r) L ≡ [] → (is_repeated r ≡ false) × (L ≡ [])
    by_level (u ∷ L) r h = absurd (cc)
    by_level [] required h = (refl, refl)
    by_level [] optional h = (refl, refl)
    by_level [] repeated h = absurd (cc)

-- with no field on the other path
pub on_root : (L : List Step) → begins_with L [] ≡ true → L ≡ []
on_root [] h = refl
on_root (s ∷ L) h = absurd (true≢false (sym h))

-- behind the first step of both
pub on_below : (u s : Step) (q p : List Step) → begins_with (chain_end (u ∷ q)) (s ∷ p) ≡ true → begins_with (chain_end q) p ≡ true
on_below u s q p h = by_level (chain_end q) h
  where
    by_level : (L : List Step) → begins_with (up_to u L) (s ∷ p) ≡ true → begins_with L p ≡ true
    by_level [] h = refl
    by_level (v ∷ L) h = (and_parts (u.place == s.place) (begins_with (v ∷ L) p) h).1

-- where the first steps differ
pub on_apart : (u s : Step) (q p : List Step) → (u.place == s.place) ≡ false → begins_with (chain_end (u ∷ q)) (s ∷ p) ≡ true → chain_end (u ∷ q) ≡ []
on_apart u s q p e h = by_level (chain_end q) u.repetition h
  where
    differs : (b c : Bool) → b ≡ false → (b && c) ≡ true → true ≡ false
    differs true c e h = e
    differs false c e h = sym h

    by_level : (L : List Step) (r : Repetition) → begins_with (up_to (step_of u r) L) (s ∷ p) ≡ true → up_to (step_of u r) L ≡ []
    by_level (v ∷ L) r h = absurd (true≢false (differs (u.place == s.place) (begins_with (v ∷ L) p) e h))
    by_level [] required h = refl
    by_level [] optional h = refl
    by_level [] repeated h = absurd (true≢false (differs (u.place == s.place) true e h))
