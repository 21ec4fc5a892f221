-- Bytes that are read up to a limit.
use Rattle.std.proofs.Common.{◌≡◌, ◌≤◌, ◌++◌, ◌∙◌, ℕ, zero, suc, List, [], ◌∷◌, take, length, refl, ap, ap₂, subst, arith, Option, Some, None, IfSome}
use Rattle.std.specs.Prelude.{option_map}

-- fewer bytes than the limit are all
front_is_whole : (n : ℕ) (left : List ℕ) → length (take (suc n) left) ≤ n → take (suc n) left ≡ left
front_is_whole n [] h = refl
front_is_whole zero (x ∷ xs) h = let none : suc (length (take zero xs)) ≤ zero = h in absurd (omega (arith, none))
front_is_whole (suc n) (x ∷ xs) h =
    let one_more : suc (length (take (suc n) xs)) ≤ suc n = h in
    ap (λ (rest : List ℕ). x ∷ rest) (front_is_whole n xs (omega (arith, one_more)))

pub whole_read : (o left : Option (List ℕ)) (k n : ℕ) (old new : List ℕ) → o ≡ left → k ≡ suc n → old ≡ [] → length new ≤ n
    → IfSome (option_map (take k) o) (λ xs. new ≡ old ++ xs) → IfSome left (λ xs. new ≡ xs)
whole_read o left k n old new same limit empty few read = subst (λ (p : Option (List ℕ)). IfSome p (λ xs. new ≡ xs)) same (go o read)
  where
    go : (p : Option (List ℕ)) → IfSome (option_map (take k) p) (λ xs. new ≡ old ++ xs) → IfSome p (λ xs. new ≡ xs)
    go None h = tt
    go (Some xs) h =
        let front : new ≡ take (suc n) xs = h ∙ ap₂ (λ (u : List ℕ) (j : ℕ). u ++ take j xs) empty limit in
        front ∙ front_is_whole n xs (subst (λ (l : List ℕ). length l ≤ n) front few)
