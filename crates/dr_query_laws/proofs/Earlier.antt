-- Members of a list, the places of its items, and what is read of the items before a place.
use Rattle.std.proofs.Common.{◌≡◌, ◌⊎◌, inl, inr, ℕ, zero, suc, ◌<◌, List, [], ◌∷◌, Bool, true, false, Option, Some, refl, sym, ap, ◌∙◌, subst, arith, true≢false}
use Rattle.std.specs.Prelude.{◌&&◌, ◌||◌}
use Rattle.std.specs.List.{list_all, list_any, slice_get}

-- ---- members

abbrev pub Member : {A : Type 0} → A → List A → Type 0
Member a [] = ⊥
Member a (b ∷ bs) = (b ≡ a) ⊎ Member a bs

pub any_member : {A : Type 0} (f : A → Bool) (xs : List A) → list_any f xs ≡ true → (a : A) × Member a xs × (f a ≡ true)
any_member f [] h = absurd (true≢false (sym h))
any_member {A} f (x ∷ xs) h = by_first (f x) refl h (any_member f xs)
  where
    by_first : (b : Bool) → f x ≡ b → (b || list_any f xs) ≡ true → (list_any f xs ≡ true → (a : A) × Member a xs × (f a ≡ true)) → (a : A) × Member a (x ∷ xs) × (f a ≡ true)
    by_first true e k r = (x, inl refl, e)
    by_first false e k r = let m = r k in (m.0, inr m.1, m.2)

or_true : (b : Bool) → (b || true) ≡ true
or_true true = refl
or_true false = refl

and_false : (b : Bool) → (b && false) ≡ false
and_false true = refl
and_false false = refl

pub member_any : {A : Type 0} (f : A → Bool) (xs : List A) (a : A) → Member a xs → f a ≡ true → list_any f xs ≡ true
member_any f [] a m h = absurd m
member_any f (x ∷ xs) a (inl e) h = ap (λ b. b || list_any f xs) (ap f e ∙ h)
member_any f (x ∷ xs) a (inr m) h = ap (λ b. f x || b) (member_any f xs a m h) ∙ or_true (f x)

pub not_all_member : {A : Type 0} (f : A → Bool) (xs : List A) → list_all f xs ≡ false → (a : A) × Member a xs × (f a ≡ false)
not_all_member f [] h = absurd (true≢false h)
not_all_member {A} f (x ∷ xs) h = by_first (f x) refl h (not_all_member f xs)
  where
    by_first : (b : Bool) → f x ≡ b → (b && list_all f xs) ≡ false → (list_all f xs ≡ false → (a : A) × Member a xs × (f a ≡ false)) → (a : A) × Member a (x ∷ xs) × (f a ≡ false)
    by_first true e k r = let m = r k in (m.0, inr m.1, m.2)
    by_first false e k r = (x, inl refl, e)

pub member_not_all : {A : Type 0} (f : A → Bool) (xs : List A) (a : A) → Member a xs → f a ≡ false → list_all f xs ≡ false
member_not_all f [] a m h = absurd m
member_not_all f (x ∷ xs) a (inl e) h = ap (λ b. b && list_all f xs) (ap f e ∙ h)
member_not_all f (x ∷ xs) a (inr m) h = ap (λ b. f x && b) (member_not_all f xs a m h) ∙ and_false (f x)

-- ---- places

-- an item at the place m of a list whose first has the place n
abbrev pub AtFrom : {A : Type 0} → ℕ → List A → ℕ → A → Type 0
AtFrom n [] m x = ⊥
AtFrom n (y ∷ ys) m x = ((n ≡ m) × (y ≡ x)) ⊎ AtFrom (suc n) ys m x

pub from_later : {A : Type 0} (n : ℕ) (xs : List A) (m : ℕ) (x : A) → AtFrom (suc n) xs m x → n < m
from_later n [] m x h = absurd h
from_later n (y ∷ ys) m x (inl h) = omega (arith, h.0)
from_later n (y ∷ ys) m x (inr h) = let k = from_later (suc n) ys m x h in omega (arith, k)

down : {A : Type 0} (n : ℕ) (xs : List A) (m : ℕ) (x : A) → AtFrom (suc n) xs m x → (k : ℕ) × (m ≡ suc k) × AtFrom n xs k x
down n [] m x h = absurd h
down n (y ∷ ys) m x (inl h) = (n, sym h.0, inl (refl, h.1))
down n (y ∷ ys) m x (inr h) = let r = down (suc n) ys m x h in (r.0, r.1, inr r.2)

up : {A : Type 0} (n : ℕ) (xs : List A) (k : ℕ) (x : A) → AtFrom n xs k x → AtFrom (suc n) xs (suc k) x
up n [] k x h = absurd h
up n (y ∷ ys) k x (inl h) = inl (ap suc h.0, h.1)
up n (y ∷ ys) k x (inr h) = inr (up (suc n) ys k x h)

same_some : {A : Type 0} (a b : A) → ◌≡◌ {A = Option A} (Some a) (Some b) → a ≡ b
same_some a b h = cc

pub from_start : {A : Type 0} (xs : List A) (m : ℕ) (x : A) → AtFrom 0 xs m x → slice_get xs m ≡ Some x
from_start [] m x h = absurd h
from_start (y ∷ ys) m x (inl h) = subst (λ k. slice_get (y ∷ ys) k ≡ Some x) h.0 (ap Some h.1)
from_start (y ∷ ys) m x (inr h) = let d = down 0 ys m x h in subst (λ k. slice_get (y ∷ ys) k ≡ Some x) (sym d.1) (from_start ys d.0 x d.2)

pub at_start : {A : Type 0} (xs : List A) (m : ℕ) (x : A) → slice_get xs m ≡ Some x → AtFrom 0 xs m x
at_start [] m x h = absurd (cc)
at_start (y ∷ ys) zero x h = inl (refl, same_some y x h)
at_start (y ∷ ys) (suc m) x h = inr (up 0 ys m x (at_start ys m x h))

-- ---- what is read of the items before a place

pub below_next : (m n : ℕ) → m < suc n → (m ≡ n) ⊎ (m < n)
below_next zero zero h = inl refl
below_next zero (suc n) h = inr (omega arith)
below_next (suc m) zero h = absurd (omega (arith, h))
below_next (suc m) (suc n) h = by_rest (below_next m n (omega (arith, h)))
  where
    by_rest : (m ≡ n) ⊎ (m < n) → (suc m ≡ suc n) ⊎ (suc m < suc n)
    by_rest (inl e) = inl (ap suc e)
    by_rest (inr k) = inr (omega (arith, k))

-- b is read of an item before the place n
abbrev pub ReadBefore : {A B : Type 0} → (ℕ → A → B → Type 0) → List A → ℕ → B → Type 0
ReadBefore {A} Is xs n b = (m : ℕ) × (a : A) × (slice_get xs m ≡ Some a) × (m < n) × Is m a b

-- a list has just what is read of the items before the place n
abbrev pub Mirror : {A B : Type 0} → (ℕ → A → B → Type 0) → List A → ℕ → List B → Type 0
Mirror {A} {B} Is xs n bs = (b : B) → (Member b bs → ReadBefore Is xs n b) × (ReadBefore Is xs n b → Member b bs)

pub mirror_none : {A B : Type 0} (Is : ℕ → A → B → Type 0) (xs : List A) → Mirror Is xs 0 []
mirror_none {A} {B} Is xs b = (λ h. absurd h, none)
  where
    none : ReadBefore Is xs 0 b → ⊥
    none r = let l = r.3 in absurd (omega (arith, l))

-- one more item, of which b and nothing else is read
pub mirror_more : {A B : Type 0} (Is : ℕ → A → B → Type 0) (xs : List A) (n : ℕ) (bs : List B) (a : A) (b : B) → Mirror Is xs n bs → slice_get xs n ≡ Some a → Is n a b
    → ((c : B) → Is n a c → b ≡ c) → Mirror Is xs (suc n) (b ∷ bs)
mirror_more {A} {B} Is xs n bs a b h e i only c = (to, back)
  where
    to : (b ≡ c) ⊎ Member c bs → ReadBefore Is xs (suc n) c
    to (inl k) = (n, a, e, omega arith, subst (Is n a) k i)
    to (inr m) = let r = (h c).0 m in (r.0, r.1, r.2, (let l = r.3 in omega (arith, l)), r.4)

    by_place : (r : ReadBefore Is xs (suc n) c) → (r.0 ≡ n) ⊎ (r.0 < n) → (b ≡ c) ⊎ Member c bs
    by_place r (inl k) = inl (only c (subst (λ (x : A). Is n x c) (same_some r.1 a (sym (subst (λ m. slice_get xs m ≡ Some r.1) k r.2) ∙ e)) (subst (λ m. Is m r.1 c) k r.4)))
    by_place r (inr l) = inr ((h c).1 (r.0, r.1, r.2, l, r.4))

    back : ReadBefore Is xs (suc n) c → (b ≡ c) ⊎ Member c bs
    back r = by_place r (below_next r.0 n r.3)

-- one more item, of which nothing is read
pub mirror_skip : {A B : Type 0} (Is : ℕ → A → B → Type 0) (xs : List A) (n : ℕ) (bs : List B) (a : A) → Mirror Is xs n bs → slice_get xs n ≡ Some a → ((c : B) → Is n a c → ⊥)
    → Mirror Is xs (suc n) bs
mirror_skip {A} {B} Is xs n bs a h e none c = (to, back)
  where
    to : Member c bs → ReadBefore Is xs (suc n) c
    to m = let r = (h c).0 m in (r.0, r.1, r.2, (let l = r.3 in omega (arith, l)), r.4)

    by_place : (r : ReadBefore Is xs (suc n) c) → (r.0 ≡ n) ⊎ (r.0 < n) → Member c bs
    by_place r (inl k) = absurd (none c (subst (λ (x : A). Is n x c) (same_some r.1 a (sym (subst (λ m. slice_get xs m ≡ Some r.1) k r.2) ∙ e)) (subst (λ m. Is m r.1 c) k r.4)))
    by_place r (inr l) = (h c).1 (r.0, r.1, r.2, l, r.4)

    back : ReadBefore Is xs (suc n) c → Member c bs
    back r = by_place r (below_next r.0 n r.3)
