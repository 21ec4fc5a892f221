-- A text cut at a single quote.
use Rattle.std.specs.Prelude.{◌≡◌, ◌≢◌, ℕ, suc, ◌<◌, List, [], ◌∷◌, ◌++◌, length, get_or, ◌==◌, true, false, Option, Some, None, MatchOption}
use denote.Ref.{Bor}
use Rattle.std.proofs.Common.{arith, refl, ap, ◌∙◌}
use Rattle.std.proofs.lemmas.Bool.Decides.{nat_tests}
use Rattle.dr_sql.specs.TokenViews.{undoubled, undoubled_from}

abbrev pub HasNoQuote : List ℕ → Type 0
HasNoQuote w = (i : ℕ) → i < length w → get_or w i 0 ≢ 39

tail_has_none : (b : ℕ) (bs : List ℕ) → HasNoQuote (b ∷ bs) → HasNoQuote bs
tail_has_none b bs h i l = h (suc i) (omega arith)

no_quote : (b : ℕ) (bs rest : List ℕ) → HasNoQuote (b ∷ bs) → undoubled (b ∷ (bs ++ rest)) ≡ b ∷ undoubled (bs ++ rest)
no_quote b bs rest h =
    let d : b ≢ 39 = h 0 (omega arith) in
    let t : (b == 39) ≡ false = grind (arith, nat_tests) in
    rw t refl

no_quote_alone : (b : ℕ) (bs : List ℕ) → HasNoQuote (b ∷ bs) → undoubled (b ∷ bs) ≡ b ∷ undoubled bs
no_quote_alone b bs h =
    let d : b ≢ 39 = h 0 (omega arith) in
    let t : (b == 39) ≡ false = grind (arith, nat_tests) in
    rw t refl

whole : (w : List ℕ) → HasNoQuote w → undoubled w ≡ w
whole [] h = refl
whole (b ∷ bs) h = no_quote_alone b bs h ∙ ap (λ xs. b ∷ xs) (whole bs (tail_has_none b bs h))

cut_first : (w rest : List ℕ) → HasNoQuote w → undoubled (w ++ 39 ∷ rest) ≡ w ++ 39 ∷ undoubled_from true rest
cut_first [] rest h = refl
cut_first (b ∷ bs) rest h = no_quote b bs (39 ∷ rest) h ∙ ap (λ xs. b ∷ xs) (cut_first bs rest (tail_has_none b bs h))

-- a text cut once, at its first quote
pub parts_are_cut : (text : List ℕ) (r : Option (Bor (List ℕ) × Bor (List ℕ)))
    → MatchOption r (HasNoQuote text) (λ x. (text ≡ x.0.now ++ (39 ∷ x.1.now)) × HasNoQuote x.0.now)
    → MatchOption r (undoubled text ≡ text) (λ x. undoubled text ≡ x.0.now ++ 39 ∷ undoubled_from true x.1.now)
parts_are_cut text None h = whole text h
parts_are_cut text (Some x) h = ap undoubled h.0 ∙ cut_first x.0.now x.1.now h.1

-- what doesn't begin with a quote has none that doubles one before it
pub undoubled_behind : (text : List ℕ) → ((rest : List ℕ) → text ≢ 39 ∷ rest) → undoubled text ≡ undoubled_from true text
undoubled_behind [] h = refl
undoubled_behind (b ∷ bs) h =
    let d : b ≢ 39 = λ e. h bs (ap (λ x. x ∷ bs) e) in
    let t : (b == 39) ≡ false = grind (arith, nat_tests) in
    rw t refl
