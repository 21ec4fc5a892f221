-- Numbers of options: what is parsed is the number between the bounds, or the other.
use Rattle.std.proofs.Common.{◌≡◌, ◌≤◌, ℕ, Bool, true, false, ◌&&◌, refl, sym, ap, ◌∙◌, subst, List, [], ◌∷◌, length}
use Rattle.std.specs.Prelude.{nat_le, nat_lt, Some, if◌then◌else◌}
use Rattle.std.specs.List.{list_all}
use Rattle.std.specs.Char.{digit_value}
use Rattle.std.specs.Str.Parse.{AllDigits, IsNumeral, digits_value, without_leading_plus}
use Rattle.std.proofs.lemmas.Bool.{and_parts, and_from, leb-true, le-leb, ltb-true, lt-ltb}
use Rattle.dr_words.specs.Numbers.{is_numeral, value_of, is_number_in, number_in}

digits_are : (ds : List ℕ) → list_all (λ c. nat_lt (digit_value c) 10) ds ≡ true → AllDigits 10 ds
digits_are [] h = tt
digits_are (c ∷ ds) h = let k = and_parts (nat_lt (digit_value c) 10) (list_all (λ c. nat_lt (digit_value c) 10) ds) h in (ltb-true _ _ k.0, digits_are ds k.1)

are_digits : (ds : List ℕ) → AllDigits 10 ds → list_all (λ c. nat_lt (digit_value c) 10) ds ≡ true
are_digits [] h = refl
are_digits (c ∷ ds) h = and_from _ _ (lt-ltb _ _ h.0) (are_digits ds h.1)

pub numeral_is : (ds : List ℕ) → is_numeral ds ≡ true → IsNumeral 10 ds
numeral_is ds h = let k = and_parts (nat_lt 0 (length ds)) (list_all (λ c. nat_lt (digit_value c) 10) ds) h in (ltb-true _ _ k.0, digits_are ds k.1)

pub is_numeral_of : (ds : List ℕ) → IsNumeral 10 ds → is_numeral ds ≡ true
is_numeral_of ds h = and_from _ _ (lt-ltb _ _ h.0) (are_digits ds h.1)

-- what is parsed of a text with the number is it; out of the bounds the other stands
pub number_is : (low high other n most : ℕ) (t : List ℕ) (P : Type 0) → (P × (digits_value 10 (without_leading_plus t) ≡ n)) → (P → IsNumeral 10 (without_leading_plus t)) → low ≤ n → n ≤ high → n ≡ number_in low high other (Some t)
number_is low high other n most t P h numeral l u =
    let test : is_number_in low high t ≡ true = and_from _ _ (and_from _ _ (is_numeral_of _ (numeral h.0)) (le-leb _ _ (subst (λ (m : ℕ). low ≤ m) (sym h.1) l))) (le-leb _ _ (subst (λ (m : ℕ). m ≤ high) (sym h.1) u)) in
    sym (ap (λ (b : Bool). if b then value_of t else other) test ∙ h.1)

in_bounds : (low high : ℕ) (t : List ℕ) → is_number_in low high t ≡ true → IsNumeral 10 (without_leading_plus t) × (low ≤ value_of t) × (value_of t ≤ high)
in_bounds low high t h =
    let a = and_parts (is_numeral (without_leading_plus t) && nat_le low (value_of t)) (nat_le (value_of t) high) h in
    let b = and_parts (is_numeral (without_leading_plus t)) (nat_le low (value_of t)) a.0 in
    (numeral_is _ b.0, leb-true _ _ b.1, leb-true _ _ a.1)

pub not_in_bounds : (low high other : ℕ) (t : List ℕ) → (IsNumeral 10 (without_leading_plus t) → low ≤ value_of t → value_of t ≤ high → ⊥) → other ≡ number_in low high other (Some t)
not_in_bounds low high other t never = go (is_number_in low high t) refl
  where
    go : (b : Bool) → is_number_in low high t ≡ b → other ≡ (if b then value_of t else other)
    go false e = refl
    go true e = let k = in_bounds low high t e in absurd (never k.0 k.1 k.2)
