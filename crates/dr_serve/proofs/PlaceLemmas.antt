-- Places of tablets, and the pieces that come to them.
use Rattle.std.proofs.Common.{◌≡◌, ◌<◌, ℕ, zero, suc, ◌+◌, List, [], ◌∷◌, ◌++◌, map, length, Bool, true, false, true≢false, ◌||◌, Option, None, Some, refl, sym, ap, ap₂, ◌∙◌, subst, add-one, arith}
use Rattle.std.specs.Prelude.{option_map, replicate, slice_index_or, slice_set}
use Rattle.std.specs.List.{range_with_len}
use Rattle.std.proofs.lemmas.Bool.{eq-eqb, ne_eqb}
use Rattle.dr_group.specs.Partials.{partial_view}
use Rattle.dr_group.specs.declared.partial.Partial.{Partial}
use Rattle.dr_partials.specs.Partials as meant
use Rattle.dr_tree.specs.Places.{free_places, is_free, is_free_for, has_free, filled, fill}
use Rattle.dr_tree.proofs.PlaceLemmas.{fill_here, fill_there}
use Rattle.dr_serve.specs.declared.found.Found.{Found}
use Rattle.dr_serve.specs.Rounds.{OfEachFrom}
use Rattle.dr_serve.specs.Closing.{IsTruePlace, has_some, place_of, places_from}

-- ---- one is set

pub each_set : {A : Type 0} (P : ℕ → A → Type 0) (t i j : ℕ) (xs : List A) (x : A) → OfEachFrom P t xs → t + i ≡ j → P j x → OfEachFrom P t (slice_set xs i x)
each_set P t i j [] x h e p = tt
each_set P t zero j (y ∷ xs) x h e p = (subst (λ (n : ℕ). P n x) (let q : j ≡ t = omega (arith, e) in q) p, h.1)
each_set P t (suc i) j (y ∷ xs) x h e p = (h.0, each_set P (suc t) i j xs x h.1 (omega (arith, e)) p)

pub set_length : {A : Type 0} (xs : List A) (i : ℕ) (x : A) → length (slice_set xs i x) ≡ length xs
set_length [] i x = refl
set_length (y ∷ xs) zero x = refl
set_length (y ∷ xs) (suc i) x = ap suc (set_length xs i x)

pub set_behind : {A : Type 0} (before : List A) (y : A) (behind : List A) (i : ℕ) (x : A) → length before ≡ i → slice_set (before ++ y ∷ behind) i x ≡ before ++ x ∷ behind
set_behind [] y behind zero x e = refl
set_behind [] y behind (suc i) x e = absurd (omega (arith, e))
set_behind (b ∷ before) y behind zero x e = absurd (omega (arith, e))
set_behind (b ∷ before) y behind (suc i) x e = ap (λ zs. b ∷ zs) (set_behind before y behind i x (omega (arith, e)))

pub set_has_piece : (os : List (Option Partial)) (i : ℕ) (p : Partial) → map has_some (slice_set os i (Some p)) ≡ slice_set (map has_some os) i true
set_has_piece [] i p = refl
set_has_piece (o ∷ os) zero p = refl
set_has_piece (o ∷ os) (suc i) p = ap (λ bs. has_some o ∷ bs) (set_has_piece os i p)

-- ---- none is there

pub no_pieces : (n : ℕ) → map has_some (replicate n None) ≡ replicate n false
no_pieces zero = refl
no_pieces (suc n) = ap (λ bs. false ∷ bs) (no_pieces n)

pub none_true : (is_true : ℕ → Found → Type 0) (t n : ℕ) → OfEachFrom (IsTruePlace is_true) t (replicate n None)
none_true is_true t zero = tt
none_true is_true t (suc n) = (tt, none_true is_true (suc t) n)

pub replicate_length : {A : Type 0} (n : ℕ) (x : A) → length (replicate n x) ≡ n
replicate_length zero x = refl
replicate_length (suc n) x = ap suc (replicate_length n x)

pub free_range : (k n : ℕ) → free_places (range_with_len k n) ≡ places_from k (replicate n None)
free_range k zero = refl
free_range k (suc n) = ap (λ ps. record { tablet = k; piece = None } ∷ ps) (free_range (k + 1) n ∙ ap (λ (m : ℕ). places_from m (replicate n None)) (add-one k))

-- ---- a tablet without a piece

pub no_piece_at : (os : List (Option Partial)) (i : ℕ) → i < length os → slice_index_or (map has_some os) i false ≡ false → place_of os i ≡ None
no_piece_at [] i l h = absurd (omega (arith, l))
no_piece_at (None ∷ os) zero l h = refl
no_piece_at (Some p ∷ os) zero l h = absurd (true≢false h)
no_piece_at (o ∷ os) (suc i) l h = no_piece_at os i (omega (arith, l)) h

-- ---- the tree's places

free_not : (o : Option meant.Partial) → is_free false o ≡ false
free_not None = refl
free_not (Some r) = refl

not_here : (t n : ℕ) (o : Option Partial) → (t ≡ n → ⊥) → is_free_for n (record { tablet = t; piece = option_map partial_view o }) ≡ false
not_here t n o h = ap (λ (b : Bool). is_free b (option_map partial_view o)) (ne_eqb t n h) ∙ free_not (option_map partial_view o)

here : (t n : ℕ) (o : Option Partial) → t ≡ n → o ≡ None → is_free_for n (record { tablet = t; piece = option_map partial_view o }) ≡ true
here t n o e f = ap₂ (λ (b : Bool) (x : Option Partial). is_free b (option_map partial_view x)) (eq-eqb t n e) f

pub fill_place : (t i n : ℕ) (os : List (Option Partial)) (p : Partial) → t + i ≡ n → i < length os → place_of os i ≡ None → fill n (partial_view p) (places_from t os) ≡ places_from t (slice_set os i (Some p))
fill_place t i n [] p e l h = absurd (omega (arith, l))
fill_place t zero n (o ∷ os) p e l h =
    let same : t ≡ n = omega (arith, e) in
    fill_here n (partial_view p) (record { tablet = t; piece = option_map partial_view o }) (places_from (suc t) os) (here t n o same h)
    ∙ ap (λ (m : ℕ). filled m (partial_view p) ∷ places_from (suc t) os) (sym same)
fill_place t (suc i) n (o ∷ os) p e l h =
    fill_there n (partial_view p) (record { tablet = t; piece = option_map partial_view o }) (places_from (suc t) os) (not_here t n o (λ (q : t ≡ n). omega (arith, e, q)))
    ∙ ap (λ ps. record { tablet = t; piece = option_map partial_view o } ∷ ps) (fill_place (suc t) i n os p (omega (arith, e)) (omega (arith, l)) h)

pub place_is_free : (t i n : ℕ) (os : List (Option Partial)) → t + i ≡ n → i < length os → place_of os i ≡ None → has_free n (places_from t os) ≡ true
place_is_free t i n [] e l h = absurd (omega (arith, l))
place_is_free t zero n (o ∷ os) e l h = ap (λ (b : Bool). b || has_free n (places_from (suc t) os)) (here t n o (omega (arith, e)) h)
place_is_free t (suc i) n (o ∷ os) e l h =
    ap₂ (λ (a b : Bool). a || b) (not_here t n o (λ (q : t ≡ n). omega (arith, e, q))) (place_is_free (suc t) i n os (omega (arith, e)) (omega (arith, l)) h)
