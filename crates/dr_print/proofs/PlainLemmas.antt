-- A text of bytes that stand in quotes as they are.
use Rattle.std.specs.Prelude.{◌≡◌, ℕ, List, [], ◌∷◌, ◌++◌, ◌==◌, nat_le, true, not, ◌&&◌}
use Rattle.std.specs.List.{list_all}
use Rattle.std.proofs.Common.{refl, sym, ap, ap₂, arith}
use Rattle.std.proofs.lemmas.Bool.{and_parts}
use Rattle.std.proofs.lemmas.Bool.Decides.{nat_tests}
use Rattle.json.specs.Print.{escape, escape_byte, quoted}
use Rattle.json.proofs.Printed.Strings.{escape_byte_plain}
use Rattle.dr_print.specs.Parts.{is_plain}

plain_byte : (x : ℕ) → is_plain x ≡ true → escape_byte x ≡ x ∷ []
plain_byte x h =
    let a : ((nat_le 32 x && not (x == 34)) ≡ true) × (not (x == 92) ≡ true) = and_parts _ _ h in
    let b : (nat_le 32 x ≡ true) × (not (x == 34) ≡ true) = and_parts _ _ a.0 in
    escape_byte_plain x (λ e. grind (arith, nat_tests, b.1, e)) (λ e. grind (arith, nat_tests, a.1, e)) (grind (arith, nat_tests, b.0))

plain_text : (xs : List ℕ) → list_all is_plain xs ≡ true → escape xs ≡ xs
plain_text [] h = refl
plain_text (x ∷ xs) h =
    let b : (is_plain x ≡ true) × (list_all is_plain xs ≡ true) = and_parts _ _ h in
    ap₂ ◌++◌ (plain_byte x b.0) (plain_text xs b.1)

-- it is quoted as it is
pub plain_quoted : (xs : List ℕ) → list_all is_plain xs ≡ true → 34 ∷ (xs ++ 34 ∷ []) ≡ quoted xs
plain_quoted xs h = ap (λ (ys : List ℕ). 34 ∷ (ys ++ 34 ∷ [])) (sym (plain_text xs h))
