-- Tests of lists that grow at their end.
use Rattle.std.proofs.Common.{◌≡◌, List, [], ◌∷◌, ◌++◌, Bool, true, ◌&&◌, ap, ap₂}
use Rattle.std.specs.List.{list_all}
use Rattle.std.proofs.lemmas.Bool.{and_parts}

-- one more that passes a test that all pass
pub all_push : {A : Type 0} (test : A → Bool) (xs : List A) (x : A) → list_all test xs ≡ true → test x ≡ true → list_all test (xs ++ x ∷ []) ≡ true
all_push test [] x h e = ap (λ b. b && true) e
all_push test (y ∷ xs) x h e =
    let k : (test y ≡ true) × (list_all test xs ≡ true) = and_parts _ _ h in
    ap₂ (λ a b. a && b) k.0 (all_push test xs x k.1 e)
