-- A text cut at its dots.
use Rattle.std.specs.Prelude.{◌≡◌, ◌≢◌, ℕ, suc, ◌<◌, List, [], ◌∷◌, ◌++◌, length, get_or, ◌==◌, false, Option, Some, None, MatchOption}
use denote.Ref.{Bor}
use Rattle.std.proofs.Common.{arith, refl, ap, ◌∙◌}
use Rattle.std.proofs.lemmas.Bool.Decides.{nat_tests}
use Rattle.dr_meaning.specs.Path.{cut_at_dots}
use Rattle.dr_meaning.specs.Lists.{onto_first}

abbrev pub HasNoDot : List ℕ → Type 0
HasNoDot w = (i : ℕ) → i < length w → get_or w i 0 ≢ 46

tail_has_none : (b : ℕ) (bs : List ℕ) → HasNoDot (b ∷ bs) → HasNoDot bs
tail_has_none b bs h i l = h (suc i) (omega arith)

goes_on : (b : ℕ) (bs : List ℕ) → HasNoDot (b ∷ bs) → cut_at_dots (b ∷ bs) ≡ onto_first b (cut_at_dots bs)
goes_on b bs h =
    let d : b ≢ 46 = h 0 (omega arith) in
    let t : (b == 46) ≡ false = grind (arith, nat_tests) in
    rw t refl

uncut : (w : List ℕ) → HasNoDot w → cut_at_dots w ≡ w ∷ []
uncut [] h = refl
uncut (b ∷ bs) h = goes_on b bs h ∙ ap (onto_first b) (uncut bs (tail_has_none b bs h))

goes_on_before : (b : ℕ) (bs rest : List ℕ) → HasNoDot (b ∷ bs) → cut_at_dots (b ∷ (bs ++ rest)) ≡ onto_first b (cut_at_dots (bs ++ rest))
goes_on_before b bs rest h =
    let d : b ≢ 46 = h 0 (omega arith) in
    let t : (b == 46) ≡ false = grind (arith, nat_tests) in
    rw t refl

cut_first : (w rest : List ℕ) → HasNoDot w → cut_at_dots (w ++ 46 ∷ rest) ≡ w ∷ cut_at_dots rest
cut_first [] rest h = refl
cut_first (b ∷ bs) rest h = goes_on_before b bs (46 ∷ rest) h ∙ ap (onto_first b) (cut_first bs rest (tail_has_none b bs h))

-- a text cut once, at its first dot
pub parts_are_cut : (text : List ℕ) (r : Option (Bor (List ℕ) × Bor (List ℕ)))
    → MatchOption r (HasNoDot text) (λ x. (text ≡ x.0.now ++ (46 ∷ x.1.now)) × HasNoDot x.0.now)
    → MatchOption r (cut_at_dots text ≡ text ∷ []) (λ x. cut_at_dots text ≡ x.0.now ∷ cut_at_dots x.1.now)
parts_are_cut text None h = uncut text h
parts_are_cut text (Some x) h = ap cut_at_dots h.0 ∙ cut_first x.0.now x.1.now h.1
