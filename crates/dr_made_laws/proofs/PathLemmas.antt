-- Fronts of paths, and the levels of paths that go on.
use Rattle.std.proofs.Common.{◌≡◌, ◌⊎◌, inl, inr, ℕ, List, [], ◌∷◌, ◌++◌, Bool, true, false, ◌&&◌, refl, sym, ap, ap₂, ◌∙◌, true≢false, append-nil}
use Rattle.std.specs.Prelude.{◌==◌}
use Rattle.std.proofs.lemmas.Bool.{and_parts, eq-eqb, eqb-true}
use Rattle.dr_meaning.specs.Schema.{Repetition, required, optional, repeated}
use Rattle.dr_meaning.specs.Path.{Step, chain_end, up_to, begins_with, same_path}

same_place : (a b : ℕ) → (a == b) ≡ true → (b == a) ≡ true
same_place a b e = eq-eqb b a (sym (eqb-true a b e))

pub begins_itself : (p : List Step) → begins_with p p ≡ true
begins_itself [] = refl
begins_itself (s ∷ p) = ap₂ (λ (x y : Bool). x && y) (eq-eqb s.place s.place refl) (begins_itself p)

pub begins_front : (p q : List Step) → begins_with p (p ++ q) ≡ true
begins_front [] q = refl
begins_front (s ∷ p) q = ap₂ (λ (x y : Bool). x && y) (eq-eqb s.place s.place refl) (begins_front p q)

pub begins_along : (p q f : List Step) → begins_with p q ≡ true → begins_with q f ≡ true → begins_with p f ≡ true
begins_along [] q f h g = refl
begins_along (s ∷ p) [] f h g = absurd (true≢false (sym h))
begins_along (s ∷ p) (t ∷ q) [] h g = absurd (true≢false (sym g))
begins_along (s ∷ p) (t ∷ q) (u ∷ f) h g =
    let a : ((s.place == t.place) ≡ true) × (begins_with p q ≡ true) = and_parts (s.place == t.place) (begins_with p q) h in
    let b : ((t.place == u.place) ≡ true) × (begins_with q f ≡ true) = and_parts (t.place == u.place) (begins_with q f) g in
    ap₂ (λ (x y : Bool). x && y) (eq-eqb s.place u.place (eqb-true s.place t.place a.0 ∙ eqb-true t.place u.place b.0)) (begins_along p q f a.1 b.1)

-- a longer path isn't a front
pub longer_begins : (p q : List Step) (s : Step) → begins_with (p ++ s ∷ q) p ≡ true → ⊥
longer_begins [] q s h = true≢false (sym h)
longer_begins (t ∷ p) q s h = longer_begins p q s (and_parts (t.place == t.place) (begins_with (p ++ s ∷ q) p) h).1

-- what doesn't begin with a path doesn't begin with one that goes on
pub longer_apart : (p q f : List Step) → begins_with p f ≡ false → begins_with (p ++ q) f ≡ false
longer_apart p q f h = by_test (begins_with (p ++ q) f) refl
  where
    by_test : (b : Bool) → begins_with (p ++ q) f ≡ b → b ≡ false
    by_test false e = refl
    by_test true e = absurd (true≢false (sym (begins_along p (p ++ q) f (begins_front p q) e) ∙ h))

-- a front of a path that goes on is a front of the first part, or begins with it
pub front_cases : (u p q : List Step) → begins_with u (p ++ q) ≡ true → (begins_with u p ≡ true) ⊎ (begins_with p u ≡ true)
front_cases u [] q h = inr refl
front_cases [] (s ∷ p) q h = inl refl
front_cases (t ∷ u) (s ∷ p) q h =
    let a : ((t.place == s.place) ≡ true) × (begins_with u (p ++ q) ≡ true) = and_parts (t.place == s.place) (begins_with u (p ++ q)) h in
    by_rest a.0 (front_cases u p q a.1)
  where
    by_rest : (t.place == s.place) ≡ true → (begins_with u p ≡ true) ⊎ (begins_with p u ≡ true) → (((t.place == s.place) && begins_with u p) ≡ true) ⊎ (((s.place == t.place) && begins_with p u) ≡ true)
    by_rest e (inl x) = inl (ap₂ (λ (b c : Bool). b && c) e x)
    by_rest e (inr x) = inr (ap₂ (λ (b c : Bool). b && c) (same_place t.place s.place e) x)

-- with one more field: of the first part, or with the whole at its front
pub next_cases : (u p : List Step) (s : Step) → begins_with u (p ++ s ∷ []) ≡ true → (begins_with u p ≡ true) ⊎ (begins_with (p ++ s ∷ []) u ≡ true)
next_cases [] p s h = inl refl
next_cases (t ∷ []) [] s h = inr (ap (λ (b : Bool). b && true) (same_place t.place s.place (and_parts (t.place == s.place) true h).0))
next_cases (t ∷ v ∷ u) [] s h = absurd (true≢false (sym (and_parts (t.place == s.place) false h).1))
next_cases (t ∷ u) (v ∷ p) s h =
    let a : ((t.place == v.place) ≡ true) × (begins_with u (p ++ s ∷ []) ≡ true) = and_parts (t.place == v.place) (begins_with u (p ++ s ∷ [])) h in
    by_rest a.0 (next_cases u p s a.1)
  where
    by_rest : (t.place == v.place) ≡ true → (begins_with u p ≡ true) ⊎ (begins_with (p ++ s ∷ []) u ≡ true) → (((t.place == v.place) && begins_with u p) ≡ true) ⊎ (((v.place == t.place) && begins_with (p ++ s ∷ []) u) ≡ true)
    by_rest e (inl x) = inl (ap₂ (λ (b c : Bool). b && c) e x)
    by_rest e (inr x) = inr (ap₂ (λ (b c : Bool). b && c) (same_place t.place v.place e) x)

-- a path at another place
pub other_place : (p q f : List Step) (s t : Step) → (s.place == t.place) ≡ false → begins_with (p ++ s ∷ q) (p ++ t ∷ f) ≡ false
other_place [] q f s t h = ap (λ (b : Bool). b && begins_with q f) h
other_place (u ∷ p) q f s t h = ap₂ (λ (x y : Bool). x && y) (eq-eqb u.place u.place refl) (other_place p q f s t h)

-- ---- levels

-- the path of a level
abbrev pub IsLevel : List Step → Type 0
IsLevel p = chain_end p ≡ p

pub chain_front : (p : List Step) → begins_with (chain_end p) p ≡ true
chain_front [] = refl
chain_front (s ∷ p) = by_level (chain_end p) s.repetition (chain_front p)
  where
    by_level : (L : List Step) (r : Repetition) → begins_with L p ≡ true → begins_with (up_to (record { place = s.place; repetition = r }) L) (s ∷ p) ≡ true
    by_level (u ∷ L) r h = ap₂ (λ (x y : Bool). x && y) (eq-eqb s.place s.place refl) h
    by_level [] required h = refl
    by_level [] optional h = refl
    by_level [] repeated h = ap (λ (b : Bool). b && true) (eq-eqb s.place s.place refl)

-- behind a path without repeated fields the level is the same
pub chain_stays : (p q : List Step) → chain_end q ≡ [] → chain_end (p ++ q) ≡ chain_end p
chain_stays [] q h = h
chain_stays (s ∷ p) q h = ap (up_to s) (chain_stays p q h)

pub chain_goes_on : (p q : List Step) (s : Step) (L : List Step) → chain_end q ≡ s ∷ L → chain_end (p ++ q) ≡ p ++ s ∷ L
chain_goes_on [] q s L h = h
chain_goes_on (t ∷ p) q s L h = ap (up_to t) (chain_goes_on p q s L h) ∙ by_path p
  where
    by_path : (p : List Step) → up_to t (p ++ s ∷ L) ≡ t ∷ (p ++ s ∷ L)
    by_path [] = refl
    by_path (u ∷ p) = refl

-- behind the path of a level
pub level_chain : (p q : List Step) → IsLevel p → chain_end (p ++ q) ≡ p ++ chain_end q
level_chain p q h = by_level (chain_end q) refl
  where
    by_level : (L : List Step) → chain_end q ≡ L → chain_end (p ++ q) ≡ p ++ L
    by_level [] e = chain_stays p q e ∙ h ∙ sym (append-nil p)
    by_level (s ∷ L) e = chain_goes_on p q s L e

-- a field that is repeated
pub field_level : (p : List Step) (j : ℕ) → IsLevel (p ++ record { place = j; repetition = repeated } ∷ [])
field_level p j = chain_goes_on p (record { place = j; repetition = repeated } ∷ []) (record { place = j; repetition = repeated }) [] refl

-- what is on a level, and goes on from its path, has no repeated field there
pub none_further : (p q : List Step) → begins_with (chain_end (p ++ q)) p ≡ true → chain_end q ≡ []
none_further p q h = by_level (chain_end q) refl
  where
    by_level : (L : List Step) → chain_end q ≡ L → L ≡ []
    by_level [] e = refl
    by_level (s ∷ L) e = absurd (longer_begins p L s (ap (λ (M : List Step). begins_with M p) (sym (chain_goes_on p q s L e)) ∙ h))

pub same_begins : (p q : List Step) → same_path p q ≡ true → (begins_with p q ≡ true) × (begins_with q p ≡ true)
same_begins p q h = and_parts (begins_with p q) (begins_with q p) h
