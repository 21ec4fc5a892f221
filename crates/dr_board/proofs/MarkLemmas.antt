-- A list whose elements are changed one after another.
use Rattle.std.proofs.Common.{◌≡◌, ℕ, zero, suc, ◌+◌, ◌<◌, List, [], ◌∷◌, ◌++◌, map, take, drop, length, get_or, set, ap, ◌∙◌, sym, arith}

module _ {A : Type 0} (f : A → A) where
  changed : (xs : List A) (i : ℕ) (d y : A) → i < length xs → y ≡ f (get_or (map f (take i xs) ++ drop i xs) i d) → set (map f (take i xs) ++ drop i xs) i y ≡ map f (take (suc i) xs) ++ drop (suc i) xs
  changed [] i d y h e = absurd (omega arith)
  changed (x ∷ xs) zero d y h e = ap (λ (z : A). z ∷ xs) e
  changed (x ∷ xs) (suc i) d y h e = ap (λ (zs : List A). f x ∷ zs) (changed xs i d y (omega arith) e)

  -- the element at i is changed where those before it were
  pub change_more : (xs ys : List A) (i : ℕ) (d y : A) → i < length xs → ys ≡ map f (take i xs) ++ drop i xs → y ≡ f (get_or ys i d)
      → set ys i y ≡ map f (take (i + 1) xs) ++ drop (i + 1) xs
  change_more xs ys i d y h is e =
      let n : i + 1 ≡ suc i = omega arith in
      ap (λ (zs : List A). set zs i y) is
      ∙ (changed xs i d y h (e ∙ ap (λ (zs : List A). f (get_or zs i d)) is) ∙ ap (λ (k : ℕ). map f (take k xs) ++ drop k xs) (sym n))
