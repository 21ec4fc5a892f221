-- The numbers of values, piece by piece.
use Rattle.std.proofs.Common.{◌≡◌, ℕ, zero, suc, ◌-◌, ◌<◌, ◌≤◌, List, [], ◌∷◌, ◌++◌, length, take, drop, set, get_or, replicate, refl, sym, ap, ap₂, ◌∙◌, arith}
use Rattle.std.proofs.lemmas.List.{take_rest, length-drop}
use borrow.Rule.Slice.PartMut.{put_mid}

-- how the values of a list are told
pub record Told (T : Type 0) : Type 0 where
  pub number : T → ℕ
  pub numbers : List T → List ℕ
  pub none : numbers [] ≡ []
  pub more : (x : T) (xs : List T) → numbers (x ∷ xs) ≡ number x ∷ numbers xs

-- the values behind the first so many, as a slice shows them
pub length_rest : {T : Type 0} (k : ℕ) (xs : List T) → length (take (length xs - k) (drop k xs)) ≡ length xs - k
length_rest k xs = ap length (take_rest xs k) ∙ length-drop k xs

pub none_behind : (ns : List ℕ) (i : ℕ) → length ns ≤ i → 0 ≡ get_or ns i 0
none_behind [] i h = refl
none_behind (n ∷ ns) zero h = absurd (omega (arith, h))
none_behind (n ∷ ns) (suc i) h = none_behind ns i (omega (arith, h))

module _ (T : Type 0) (t : Told T) where
  pub length-numbers : (xs : List T) → length (t.numbers xs) ≡ length xs
  length-numbers [] = ap length t.none
  length-numbers (x ∷ xs) = ap length (t.more x xs) ∙ ap suc (length-numbers xs)

  pub numbers-take : (k : ℕ) (xs : List T) → t.numbers (take k xs) ≡ take k (t.numbers xs)
  numbers-take zero xs = t.none
  numbers-take (suc k) [] = t.none ∙ sym (ap (take (suc k)) t.none)
  numbers-take (suc k) (x ∷ xs) = t.more x (take k xs) ∙ (ap (λ ys. t.number x ∷ ys) (numbers-take k xs) ∙ sym (ap (take (suc k)) (t.more x xs)))

  pub numbers-drop : (k : ℕ) (xs : List T) → t.numbers (drop k xs) ≡ drop k (t.numbers xs)
  numbers-drop zero xs = refl
  numbers-drop (suc k) [] = t.none ∙ sym (ap (drop (suc k)) t.none)
  numbers-drop (suc k) (x ∷ xs) = numbers-drop k xs ∙ sym (ap (drop (suc k)) (t.more x xs))

  pub numbers-append : (xs ys : List T) → t.numbers (xs ++ ys) ≡ t.numbers xs ++ t.numbers ys
  numbers-append [] ys = sym (ap (λ ns. ns ++ t.numbers ys) t.none)
  numbers-append (x ∷ xs) ys = t.more x (xs ++ ys) ∙ (ap (λ ns. t.number x ∷ ns) (numbers-append xs ys) ∙ sym (ap (λ ns. ns ++ t.numbers ys) (t.more x xs)))

  pub numbers-put_mid : (a k : ℕ) (xs ys : List T) → t.numbers (put_mid a k xs ys) ≡ put_mid a k (t.numbers xs) (t.numbers ys)
  numbers-put_mid a k xs ys =
      numbers-append (take a xs) (ys ++ drop k (drop a xs)) ∙ (ap (λ ns. ns ++ t.numbers (ys ++ drop k (drop a xs))) (numbers-take a xs)
      ∙ ap (λ ns. take a (t.numbers xs) ++ ns) (numbers-append ys (drop k (drop a xs)) ∙ ap (λ ns. t.numbers ys ++ ns) (numbers-drop k (drop a xs) ∙ ap (drop k) (numbers-drop a xs))))

  pub numbers-set : (xs : List T) (i : ℕ) (x : T) → t.numbers (set xs i x) ≡ set (t.numbers xs) i (t.number x)
  numbers-set [] i x = t.none ∙ sym (ap (λ ns. set ns i (t.number x)) t.none)
  numbers-set (y ∷ xs) zero x = t.more x xs ∙ sym (ap (λ ns. set ns 0 (t.number x)) (t.more y xs))
  numbers-set (y ∷ xs) (suc i) x = t.more y (set xs i x) ∙ (ap (λ ns. t.number y ∷ ns) (numbers-set xs i x) ∙ sym (ap (λ ns. set ns (suc i) (t.number x)) (t.more y xs)))

  pub numbers-replicate : (n : ℕ) (x : T) → t.numbers (replicate n x) ≡ replicate n (t.number x)
  numbers-replicate zero x = t.none
  numbers-replicate (suc n) x = t.more x (replicate n x) ∙ ap (λ ns. t.number x ∷ ns) (numbers-replicate n x)

  pub number-at : (xs : List T) (i : ℕ) (d : T) → i < length xs → t.number (get_or xs i d) ≡ get_or (t.numbers xs) i 0
  number-at [] i d h = absurd (omega (arith, h))
  number-at (x ∷ xs) zero d h = sym (ap (λ ns. get_or ns 0 0) (t.more x xs))
  number-at (x ∷ xs) (suc i) d h = number-at xs i d (omega (arith, h)) ∙ sym (ap (λ ns. get_or ns (suc i) 0) (t.more x xs))

  -- the value that is read at a place
  pub number_read : (xs : List T) (i : ℕ) (x : T) → i < length xs → x ≡ get_or xs i x → t.number x ≡ get_or (t.numbers xs) i 0
  number_read xs i x h e = ap t.number e ∙ number-at xs i x h

  pub numbers_rest : (k : ℕ) (xs : List T) → t.numbers (take (length xs - k) (drop k xs)) ≡ drop k (t.numbers xs)
  numbers_rest k xs = ap t.numbers (take_rest xs k) ∙ numbers-drop k xs

  pub one_more : (x : T) (xs : List T) (n : ℕ) (ns : List ℕ) → t.number x ≡ n → t.numbers xs ≡ ns → t.numbers (x ∷ xs) ≡ n ∷ ns
  one_more x xs n ns e f = t.more x xs ∙ ap₂ (λ m ms. m ∷ ms) e f
