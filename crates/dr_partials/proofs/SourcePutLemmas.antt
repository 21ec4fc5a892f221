-- What is put where readings are grouped by sources.
use Rattle.std.proofs.Common.{◌≡◌, ℕ, List, [], ◌∷◌, ◌++◌, Bool, true, false, refl, sym, ap, ap₂, ◌∙◌, true≢false}
use Rattle.std.specs.Prelude.{not, ◌||◌, ◌&&◌, ◌==◌, filter, if◌then◌else◌}
use Rattle.std.specs.List.{list_all, flat_map}
use Rattle.std.proofs.lemmas.Bool.{and_parts, eqb-true}
use Rattle.dr_partials.specs.Partials.{Partial}
use Rattle.dr_partials.specs.Putting.{Put, put_all}
use Rattle.dr_partials.specs.Readings.{Reading}
use Rattle.dr_partials.specs.SourcesPut.{puts_of_sources, is_one_of, are_different, SourcesPutAll}
use Rattle.dr_partials.proofs.ReadingLemmas.{parted_readings}
use Rattle.dr_partials.proofs.TogetherLemmas.{both_same}

-- those with this number, and the others
abbrev having : (Reading → ℕ) → ℕ → List Reading → List Reading
having at k xs = filter (λ (x : Reading). at x == k) xs

abbrev lacking : (Reading → ℕ) → ℕ → List Reading → List Reading
lacking at k xs = filter (λ (x : Reading). not (at x == k)) xs

not_true : (b : Bool) → not b ≡ true → b ≡ false
not_true true h = absurd (true≢false (sym h))
not_true false h = refl

passed_over : (at : Reading → ℕ) (k j : ℕ) (xs : List Reading) → (k == j) ≡ false → having at j (lacking at k xs) ≡ having at j xs
passed_over at k j [] d = refl
passed_over at k j (x ∷ xs) d = by_test (at x == k) refl (passed_over at k j xs d)
  where
    by_test : (b : Bool) → (at x == k) ≡ b → having at j (lacking at k xs) ≡ having at j xs
        → having at j (if not b then x ∷ lacking at k xs else lacking at k xs) ≡ (if at x == j then x ∷ having at j xs else having at j xs)
    by_test true e h =
        let no : (at x == j) ≡ false = ap (λ (i : ℕ). i == j) (eqb-true (at x) k e) ∙ d in
        h ∙ ap (λ (c : Bool). if c then x ∷ having at j xs else having at j xs) (sym no)
    by_test false e h = ap (λ (ys : List Reading). if at x == j then x ∷ ys else ys) h

rest_alone : (f : Reading → List Put) (at : Reading → ℕ) (k : ℕ) (ks : List ℕ) (xs : List Reading) → list_all (λ (j : ℕ). not (k == j)) ks ≡ true
    → puts_of_sources f at (lacking at k xs) ks ≡ puts_of_sources f at xs ks
rest_alone f at k [] xs h = refl
rest_alone f at k (j ∷ js) xs h =
    let w : (not (k == j) ≡ true) × (list_all (λ (i : ℕ). not (k == i)) js ≡ true) = and_parts _ _ h in
    ap₂ (λ (ys : List Reading) (ps : List Put). flat_map f ys ++ ps) (passed_over at k j xs (not_true (k == j) w.0)) (rest_alone f at k js xs w.1)

others_there : (at : Reading → ℕ) (k : ℕ) (ks : List ℕ) (xs : List Reading) → list_all (λ (x : Reading). is_one_of (at x) (k ∷ ks)) xs ≡ true
    → list_all (λ (x : Reading). is_one_of (at x) ks) (lacking at k xs) ≡ true
others_there at k ks [] h = refl
others_there at k ks (x ∷ xs) h =
    let w : (is_one_of (at x) (k ∷ ks) ≡ true) × (list_all (λ (y : Reading). is_one_of (at y) (k ∷ ks)) xs ≡ true) = and_parts _ _ h in
    by_test (at x == k) w.0 (others_there at k ks xs w.1)
  where
    by_test : (b : Bool) → (b || is_one_of (at x) ks) ≡ true → list_all (λ (y : Reading). is_one_of (at y) ks) (lacking at k xs) ≡ true
        → list_all (λ (y : Reading). is_one_of (at y) ks) (if not b then x ∷ lacking at k xs else lacking at k xs) ≡ true
    by_test true a t = t
    by_test false a t = ap₂ (λ (b c : Bool). b && c) a t

pub sources_put_all : SourcesPutAll
sources_put_all q f at [] [] d h x = refl
sources_put_all q f at [] (y ∷ ys) d h x = absurd (true≢false (sym h))
sources_put_all q f at (k ∷ ks) xs d h x =
    let w : (list_all (λ (j : ℕ). not (k == j)) ks ≡ true) × (are_different ks ≡ true) = and_parts _ _ d in
    ap (λ (ps : List Put). put_all q (flat_map f (having at k xs) ++ ps) x) (sym (rest_alone f at k ks xs w.0))
    ∙ (both_same q (flat_map f (having at k xs)) (flat_map f (having at k xs)) (puts_of_sources f at (lacking at k xs) ks) (flat_map f (lacking at k xs))
    (λ (y : Partial). refl) (sources_put_all q f at ks (lacking at k xs) w.1 (others_there at k ks xs h)) x
    ∙ parted_readings q f (λ (y : Reading). at y == k) xs x)
