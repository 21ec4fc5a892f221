-- One more of some cells.
use Rattle.std.proofs.Common.{◌≡◌, ◌+◌, ℕ, zero, suc, List, [], ◌∷◌, ◌++◌, take, drop, ap, ◌∙◌, arith}

pub take_one_more : {A : Type 0} (k : ℕ) (xs : List A) (x : A) (ys : List A) → drop k xs ≡ x ∷ ys → take (k + 1) xs ≡ take k xs ++ x ∷ []
take_one_more zero xs x ys e = ap (take 1) e
take_one_more (suc k) [] x ys e = absurd (cc)
take_one_more (suc k) (y ∷ xs) x ys e =
    let n : suc k + 1 ≡ suc (k + 1) = omega arith in
    ap (λ (m : ℕ). take m (y ∷ xs)) n ∙ ap (λ zs. y ∷ zs) (take_one_more k xs x ys e)
