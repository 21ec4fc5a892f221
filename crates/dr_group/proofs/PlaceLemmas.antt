-- Elements of a vector that are read and written through its slice.
use Rattle.std.proofs.Common.{◌≡◌, ◌++◌, ◌∙◌, ℕ, List, length, get_or, take, ap, arith, append-nil}
use Rattle.std.specs.List.{refill}
use Rattle.std.proofs.Math.ListN.{set}
use Rattle.std.proofs.lemmas.List.{length-set, drop_all, take_all}

module _ {X : Type 0} where
  -- the elements once the slice is written
  pub written : (xs slice : List X) (i : ℕ) (y : X) → slice ≡ xs → refill (length xs) xs (set slice i y) ≡ set xs i y
  written xs slice i y e =
      let long : length (set slice i y) ≡ length xs = length-set slice i y ∙ ap length e in
      ap (λ (rest : List X). take (length xs) (set slice i y ++ rest)) (drop_all (length (set slice i y)) xs (omega (arith, long)))
      ∙ ap (take (length xs)) (append-nil (set slice i y))
      ∙ take_all (length xs) (set slice i y) (omega (arith, long))
      ∙ ap (λ (all : List X). set all i y) e

  -- what the slice has is what the vector has
  pub read : (xs slice : List X) (i : ℕ) (x : X) → slice ≡ xs → x ≡ get_or slice i x → get_or slice i x ≡ get_or xs i (get_or slice i x)
  read xs slice i x e f = ap (λ (all : List X). get_or all i x) e ∙ ap (get_or xs i) f
