-- Whether a leaf was read since another was: it wasn't wherever a third is given, if the three are read together.
use Rattle.std.proofs.Common.{◌≡◌, ◌⊎◌, inl, inr, ℕ, List, [], ◌∷◌, ◌++◌, Bool, true, false, refl, sym, ap, ap₂, subst, ◌∙◌, true≢false}
use Rattle.std.specs.Prelude.{◌==◌, if◌then◌else◌}
use Rattle.dr_meaning.specs.Column.{Triplet}
use Rattle.dr_meaning.specs.Walk.{Move, enter, value, leave}
use Rattle.dr_meaning.specs.WalkLaws.{triplets_of}

-- behind a triplet of leaf l: whether leaf k wasn't read since leaf j was
abbrev pub fresh_by : ℕ → ℕ → ℕ → Bool → Bool
fresh_by j k l v = if l == j then true else if l == k then false else v

abbrev pub fresh_after : ℕ → ℕ → Bool → List Move → Bool
fresh_after j k v [] = v
fresh_after j k v (enter m ∷ ms) = fresh_after j k v ms
fresh_after j k v (value l t ∷ ms) = fresh_after j k (fresh_by j k l v) ms
fresh_after j k v (leave m ∷ ms) = fresh_after j k v ms

-- at each triplet of leaf i
abbrev pub Fresh : ℕ → ℕ → ℕ → Bool → List Move → Type 0
Fresh i j k v [] = Unit {0}
Fresh i j k v (enter m ∷ ms) = Fresh i j k v ms
Fresh i j k v (value l t ∷ ms) = ((l == i) ≡ true → fresh_by j k l v ≡ true) × Fresh i j k (fresh_by j k l v) ms
Fresh i j k v (leave m ∷ ms) = Fresh i j k v ms

pub after_append : (j k : ℕ) (v : Bool) (a b : List Move) → fresh_after j k v (a ++ b) ≡ fresh_after j k (fresh_after j k v a) b
after_append j k v [] b = refl
after_append j k v (enter m ∷ a) b = after_append j k v a b
after_append j k v (value l t ∷ a) b = after_append j k (fresh_by j k l v) a b
after_append j k v (leave m ∷ a) b = after_append j k v a b

pub fresh_append : (i j k : ℕ) (v : Bool) (a b : List Move) → Fresh i j k v a → Fresh i j k (fresh_after j k v a) b → Fresh i j k v (a ++ b)
fresh_append i j k v [] b h g = g
fresh_append i j k v (enter m ∷ a) b h g = fresh_append i j k v a b h g
fresh_append i j k v (value l t ∷ a) b h g = (h.0, fresh_append i j k (fresh_by j k l v) a b h.1 g)
fresh_append i j k v (leave m ∷ a) b h g = fresh_append i j k v a b h g

-- the second part of moves
pub fresh_rest : (i j k : ℕ) (v : Bool) (a b : List Move) → Fresh i j k v (a ++ b) → Fresh i j k (fresh_after j k v a) b
fresh_rest i j k v [] b h = h
fresh_rest i j k v (enter m ∷ a) b h = fresh_rest i j k v a b h
fresh_rest i j k v (value l t ∷ a) b h = fresh_rest i j k (fresh_by j k l v) a b h.1
fresh_rest i j k v (leave m ∷ a) b h = fresh_rest i j k v a b h

-- a leaf that isn't given
silent_test : (k l : ℕ) (t : Triplet) (ms : List Move) → triplets_of k (value l t ∷ ms) ≡ [] → ((l == k) ≡ false) × (triplets_of k ms ≡ [])
silent_test k l t ms h = by_leaf (l == k) h
  where
    by_leaf : (b : Bool) → (if b then t ∷ triplets_of k ms else triplets_of k ms) ≡ [] → (b ≡ false) × (triplets_of k ms ≡ [])
    by_leaf true h = absurd (cc)
    by_leaf false h = (refl, h)

-- leaf i isn't given
pub quiet_fresh : (i j k : ℕ) (v : Bool) (ms : List Move) → triplets_of i ms ≡ [] → Fresh i j k v ms
quiet_fresh i j k v [] h = tt
quiet_fresh i j k v (enter m ∷ ms) h = quiet_fresh i j k v ms h
quiet_fresh i j k v (leave m ∷ ms) h = quiet_fresh i j k v ms h
quiet_fresh i j k v (value l t ∷ ms) h =
    let x : ((l == i) ≡ false) × (triplets_of i ms ≡ []) = silent_test i l t ms h in
    (λ e. absurd (true≢false (sym e ∙ x.0)), quiet_fresh i j k (fresh_by j k l v) ms x.1)

keeps_true : (j k l : ℕ) → (l == k) ≡ false → fresh_by j k l true ≡ true
keeps_true j k l e = by_leaf (l == j)
  where
    by_leaf : (b : Bool) → (if b then true else if l == k then false else true) ≡ true
    by_leaf true = refl
    by_leaf false = ap (λ (x : Bool). if x then false else true) e

-- leaf k isn't given
pub steady_fresh : (i j k : ℕ) (ms : List Move) → triplets_of k ms ≡ [] → Fresh i j k true ms
steady_fresh i j k [] h = tt
steady_fresh i j k (enter m ∷ ms) h = steady_fresh i j k ms h
steady_fresh i j k (leave m ∷ ms) h = steady_fresh i j k ms h
steady_fresh i j k (value l t ∷ ms) h =
    let x : ((l == k) ≡ false) × (triplets_of k ms ≡ []) = silent_test k l t ms h in
    let e : fresh_by j k l true ≡ true = keeps_true j k l x.0 in
    (λ z. e, subst (λ (v : Bool). Fresh i j k v ms) (sym e) (steady_fresh i j k ms x.1))

steady_after : (j k : ℕ) (ms : List Move) → triplets_of k ms ≡ [] → fresh_after j k true ms ≡ true
steady_after j k [] h = refl
steady_after j k (enter m ∷ ms) h = steady_after j k ms h
steady_after j k (leave m ∷ ms) h = steady_after j k ms h
steady_after j k (value l t ∷ ms) h =
    let x : ((l == k) ≡ false) × (triplets_of k ms ≡ []) = silent_test k l t ms h in
    ap (λ (v : Bool). fresh_after j k v ms) (keeps_true j k l x.0) ∙ steady_after j k ms x.1

-- neither j nor k is given
pub untouched : (j k : ℕ) (v : Bool) (ms : List Move) → triplets_of j ms ≡ [] → triplets_of k ms ≡ [] → fresh_after j k v ms ≡ v
untouched j k v [] h g = refl
untouched j k v (enter m ∷ ms) h g = untouched j k v ms h g
untouched j k v (leave m ∷ ms) h g = untouched j k v ms h g
untouched j k v (value l t ∷ ms) h g =
    let x : ((l == j) ≡ false) × (triplets_of j ms ≡ []) = silent_test j l t ms h in
    let y : ((l == k) ≡ false) × (triplets_of k ms ≡ []) = silent_test k l t ms g in
    ap (λ (v : Bool). fresh_after j k v ms) (ap₂ (λ (p q : Bool). if p then true else if q then false else v) x.0 y.0) ∙ untouched j k v ms x.1 y.1

-- the second leaf is the third
pub same_fresh : (i j k : ℕ) (v : Bool) (ms : List Move) → j ≡ i → Fresh i j k v ms
same_fresh i j k v [] e = tt
same_fresh i j k v (enter m ∷ ms) e = same_fresh i j k v ms e
same_fresh i j k v (leave m ∷ ms) e = same_fresh i j k v ms e
same_fresh i j k v (value l t ∷ ms) e =
    (λ z. ap (λ (b : Bool). if b then true else if l == k then false else v) (ap (λ (x : ℕ). l == x) e ∙ z), same_fresh i j k (fresh_by j k l v) ms e)

-- leaf k isn't given, so only j matters
pub own_fresh : (i j k : ℕ) (v : Bool) (ms : List Move) → triplets_of k ms ≡ [] → Fresh i j j v ms → Fresh i j k v ms
own_fresh i j k v [] h f = tt
own_fresh i j k v (enter m ∷ ms) h f = own_fresh i j k v ms h f
own_fresh i j k v (leave m ∷ ms) h f = own_fresh i j k v ms h f
own_fresh i j k v (value l t ∷ ms) h f =
    let x : ((l == k) ≡ false) × (triplets_of k ms ≡ []) = silent_test k l t ms h in
    let e : fresh_by j j l v ≡ fresh_by j k l v = by_leaf (l == j) x.0 in
    (λ z. sym e ∙ f.0 z, own_fresh i j k (fresh_by j k l v) ms x.1 (subst (λ (b : Bool). Fresh i j j b ms) e f.1))
  where
    by_leaf : (b : Bool) → (l == k) ≡ false → (if b then true else if b then false else v) ≡ (if b then true else if l == k then false else v)
    by_leaf true e = refl
    by_leaf false e = ap (λ (x : Bool). if x then false else v) (sym e)

-- ---- behind moves in which j is given

same_after : (j : ℕ) (ms : List Move) → fresh_after j j true ms ≡ true
same_after j [] = refl
same_after j (enter m ∷ ms) = same_after j ms
same_after j (leave m ∷ ms) = same_after j ms
same_after j (value l t ∷ ms) = ap (λ (v : Bool). fresh_after j j v ms) (by_leaf (l == j)) ∙ same_after j ms
  where
    by_leaf : (b : Bool) → (if b then true else if b then false else true) ≡ true
    by_leaf true = refl
    by_leaf false = refl

-- and k is j, or isn't given
pub ends_fresh : (j k : ℕ) (v : Bool) (ms : List Move) (t : Triplet) → triplets_of j ms ≡ t ∷ [] → (k ≡ j) ⊎ (triplets_of k ms ≡ []) → fresh_after j k v ms ≡ true
ends_fresh j k v [] t h g = absurd (cc)
ends_fresh j k v (enter m ∷ ms) t h g = ends_fresh j k v ms t h g
ends_fresh j k v (leave m ∷ ms) t h g = ends_fresh j k v ms t h g
ends_fresh j k v (value l u ∷ ms) t h g = by_leaf (l == j) h (λ e. ends_fresh j k (if l == k then false else v) ms t e (rest g))
  where
    rest : (k ≡ j) ⊎ (triplets_of k (value l u ∷ ms) ≡ []) → (k ≡ j) ⊎ (triplets_of k ms ≡ [])
    rest (inl e) = inl e
    rest (inr e) = inr (silent_test k l u ms e).1

    from_now : (k ≡ j) ⊎ (triplets_of k ms ≡ []) → fresh_after j k true ms ≡ true
    from_now (inl e) = ap (λ (x : ℕ). fresh_after j x true ms) e ∙ same_after j ms
    from_now (inr e) = steady_after j k ms e

    by_leaf : (b : Bool) → (if b then u ∷ triplets_of j ms else triplets_of j ms) ≡ t ∷ [] → (triplets_of j ms ≡ t ∷ [] → fresh_after j k (if l == k then false else v) ms ≡ true)
        → fresh_after j k (if b then true else if l == k then false else v) ms ≡ true
    by_leaf true h f = from_now (rest g)
    by_leaf false h f = f h
