-- Texts with two single quotes for each in them.
use Rattle.std.proofs.Common.{◌≡◌, ◌≢◌, ℕ, suc, List, [], ◌∷◌, ◌++◌, ◌==◌, true, false, Bool, Option, Some, None, MatchOption, Bor, arith, refl, ap, ◌∙◌}
use Rattle.std.specs.Prelude.{if◌then◌else◌}
use Rattle.std.specs.List.{flat_map}
use Rattle.std.proofs.lemmas.Bool.Decides.{nat_tests}
use Rattle.dr_meaning.specs.TokenLaws.{doubled}
use Rattle.dr_sql.proofs.QuoteLemmas.{HasNoQuote}

tail_has_none : (b : ℕ) (bs : List ℕ) → HasNoQuote (b ∷ bs) → HasNoQuote bs
tail_has_none b bs h i l = h (suc i) (omega arith)

no_quote : (b : ℕ) (bs rest : List ℕ) → HasNoQuote (b ∷ bs) → doubled (b ∷ (bs ++ rest)) ≡ b ∷ doubled (bs ++ rest)
no_quote b bs rest h =
    let d : b ≢ 39 = h 0 (omega arith) in
    let t : (b == 39) ≡ false = grind (arith, nat_tests) in
    rw t refl

no_quote_alone : (b : ℕ) (bs : List ℕ) → HasNoQuote (b ∷ bs) → doubled (b ∷ bs) ≡ b ∷ doubled bs
no_quote_alone b bs h =
    let d : b ≢ 39 = h 0 (omega arith) in
    let t : (b == 39) ≡ false = grind (arith, nat_tests) in
    rw t refl

whole : (w : List ℕ) → HasNoQuote w → doubled w ≡ w
whole [] h = refl
whole (b ∷ bs) h = no_quote_alone b bs h ∙ ap (λ xs. b ∷ xs) (whole bs (tail_has_none b bs h))

cut_first : (w rest : List ℕ) → HasNoQuote w → doubled (w ++ 39 ∷ rest) ≡ w ++ 39 ∷ 39 ∷ doubled rest
cut_first [] rest h = refl
cut_first (b ∷ bs) rest h = no_quote b bs (39 ∷ rest) h ∙ ap (λ xs. b ∷ xs) (cut_first bs rest (tail_has_none b bs h))

-- a text cut once, at its first quote
pub parts_are_doubled : (text : List ℕ) (r : Option (Bor (List ℕ) × Bor (List ℕ)))
    → MatchOption r (HasNoQuote text) (λ x. (text ≡ x.0.now ++ (39 ∷ x.1.now)) × HasNoQuote x.0.now)
    → MatchOption r (doubled text ≡ text) (λ x. doubled text ≡ x.0.now ++ 39 ∷ 39 ∷ doubled x.1.now)
parts_are_doubled text None h = whole text h
parts_are_doubled text (Some x) h = ap doubled h.0 ∙ cut_first x.0.now x.1.now h.1

-- the literal's text
pub literal_is_doubled : (t : List ℕ) → flat_map (λ b. if b == 39 then 39 ∷ 39 ∷ [] else b ∷ []) t ≡ doubled t
literal_is_doubled [] = refl
literal_is_doubled (b ∷ bs) = by (b == 39) (literal_is_doubled bs)
  where
    by : (q : Bool) → flat_map (λ c. if c == 39 then 39 ∷ 39 ∷ [] else c ∷ []) bs ≡ doubled bs
        → (if q then 39 ∷ 39 ∷ [] else b ∷ []) ++ flat_map (λ c. if c == 39 then 39 ∷ 39 ∷ [] else c ∷ []) bs ≡ (if q then 39 ∷ 39 ∷ doubled bs else b ∷ doubled bs)
    by true e = ap (λ xs. 39 ∷ 39 ∷ xs) e
    by false e = ap (λ xs. b ∷ xs) e
