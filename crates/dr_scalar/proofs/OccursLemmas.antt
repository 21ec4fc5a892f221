-- A part occurs in a text exactly where a search of it finds a place.
use Rattle.std.proofs.Common.{◌≡◌, ℕ, zero, suc, ◌+◌, ◌<◌, List, [], ◌∷◌, length, Bool, true, false, ◌||◌, ◌&&◌, ◌==◌, Option, Some, None, is_some, refl, sym, ap, ◌∙◌, arith, true≢false, slice_index}
use Rattle.std.proofs.lemmas.Bool.{eqb-true, eq-eqb}
use Rattle.dr_meaning.specs.Expression.{begins_text, occurs_in}
use Rattle.memchr.specs.Find.{OccursAt, FindsNeedle}
use Rattle.dr_scalar.proofs.LikeLemmas.{here, later}

-- ---- at the front

no_shift : (j : ℕ) → 0 + j ≡ j
no_shift j = omega arith

both : (a b : Bool) → a ≡ true → b ≡ true → (a && b) ≡ true
both a b g h = ap (λ x. x && b) g ∙ h

front_from_place : (part text : List ℕ) → OccursAt text part 0 → begins_text part text ≡ true
front_from_place [] text o = refl
front_from_place (p ∷ ps) [] o = absurd (omega (arith, o.fits))
front_from_place (p ∷ ps) (c ∷ cs) o = both (p == c) (begins_text ps cs) (eq-eqb p c (sym (o.reads 0 (omega arith)))) (front_from_place ps cs rest)
  where
    rest : OccursAt cs ps 0
    rest = record {
      fits = omega (arith, o.fits);
      reads = λ j h. ap (slice_index cs) (no_shift j) ∙ (ap (slice_index (c ∷ cs)) (sym (no_shift (suc j))) ∙ o.reads (suc j) (omega arith));
    }

pub first_of_two : (a b : Bool) → (a && b) ≡ true → a ≡ true
first_of_two true b h = refl
first_of_two false b h = h

pub second_of_two : (a b : Bool) → (a && b) ≡ true → b ≡ true
second_of_two true b h = h
second_of_two false b h = absurd (true≢false (sym h))

at_front : (p c : ℕ) (ps cs : List ℕ) → c ≡ p → OccursAt cs ps 0 → (j : ℕ) → j < length (p ∷ ps) → slice_index (c ∷ cs) (0 + j) ≡ slice_index (p ∷ ps) j
at_front p c ps cs e o zero h = e
at_front p c ps cs e o (suc j) h = ap (slice_index (c ∷ cs)) (no_shift (suc j)) ∙ (ap (slice_index cs) (sym (no_shift j)) ∙ o.reads j (omega arith))

place_from_front : (part text : List ℕ) → begins_text part text ≡ true → OccursAt text part 0
place_from_front [] text h = record { fits = omega arith; reads = λ j k. absurd (omega arith) }
place_from_front (p ∷ ps) [] h = absurd (true≢false (sym h))
place_from_front (p ∷ ps) (c ∷ cs) h =
    let o = place_from_front ps cs (second_of_two (p == c) (begins_text ps cs) h) in
    record { fits = omega (arith, o.fits); reads = at_front p c ps cs (sym (eqb-true p c (first_of_two (p == c) (begins_text ps cs) h))) o }

-- ---- further on

one_more : (k j : ℕ) → suc k + j ≡ suc (k + j)
one_more k j = omega arith

behind_first : (c : ℕ) (cs part : List ℕ) (k : ℕ) → OccursAt (c ∷ cs) part (suc k) → OccursAt cs part k
behind_first c cs part k o = record {
  fits = omega (arith, o.fits);
  reads = λ j h. ap (slice_index (c ∷ cs)) (sym (one_more k j)) ∙ o.reads j h;
}

before_first : (c : ℕ) (cs part : List ℕ) (k : ℕ) → OccursAt cs part k → OccursAt (c ∷ cs) part (suc k)
before_first c cs part k o = record {
  fits = omega (arith, o.fits);
  reads = λ j h. ap (slice_index (c ∷ cs)) (one_more k j) ∙ o.reads j h;
}

occurs_from_place : (part text : List ℕ) (k : ℕ) → OccursAt text part k → occurs_in part text ≡ true
occurs_from_place part text zero o = here (begins_text part) text (front_from_place part text o)
occurs_from_place part [] (suc k) o = absurd (omega (arith, o.fits))
occurs_from_place part (c ∷ cs) (suc k) o = later (begins_text part) c cs (occurs_from_place part cs k (behind_first c cs part k o))

abbrev Place : List ℕ → List ℕ → Type 0
Place part text = (k : ℕ) × OccursAt text part k

place_from_occurs : (part text : List ℕ) → occurs_in part text ≡ true → Place part text
place_from_occurs part [] h = (0, place_from_front part [] h)
place_from_occurs part (c ∷ cs) h = by (begins_text part (c ∷ cs)) refl h (place_from_occurs part cs)
  where
    by : (b : Bool) → begins_text part (c ∷ cs) ≡ b → (b || occurs_in part cs) ≡ true → (occurs_in part cs ≡ true → Place part cs) → Place part (c ∷ cs)
    by true e k g = (0, place_from_front part (c ∷ cs) e)
    by false e k g = let q = g k in (suc q.0, before_first c cs part q.0 q.1)

pub occurs_as_found : (part text : List ℕ) (r : Option ℕ) → FindsNeedle text part 0 r → is_some r ≡ occurs_in part text
occurs_as_found part text (Some k) h = sym (occurs_from_place part text k h.1)
occurs_as_found part text None h = by (occurs_in part text) refl
  where
    by : (b : Bool) → occurs_in part text ≡ b → false ≡ b
    by false e = refl
    by true e = let q = place_from_occurs part text e in absurd (h q.0 (omega arith) (omega (arith, q.1.fits)) q.1)
