-- The numbers on a path, from one field of a group on.
use Rattle.std.proofs.Common.{◌≡◌, ℕ, zero, suc, ◌+◌, ◌-◌, ◌≤◌, ◌<◌, max, List, [], ◌∷◌, length, get_or, drop, refl, ap, ◌∙◌, arith}
use Rattle.std.proofs.lemmas.List.{drop_all}
use Rattle.dr_meaning.specs.Schema.{Repetition, required, optional, repeated, Fields, no_fields, field, Shape, leaf, group, depth, shape_depth, repetition_count, shape_repeated_fields}
use Rattle.dr_meaning.specs.Path.{Step}
use Rattle.dr_nested.specs.declared.shape.Field.{Field}
use Rattle.dr_nested.specs.Views.{rep_view, shape_view, fields_view}
use Rattle.dr_nested.proofs.ViewLemmas.{view-field}
use Rattle.dr_walk.proofs.FieldLemmas.{from_field, fields_in}
use Rattle.dr_kept_laws.specs.ChainNumbers.{by_place, own_number, numbers_in, shape_numbers}

-- a step whose place is counted from the field at k
abbrev pub counted_from : ℕ → Step → Step
counted_from k s = record { place = s.place - k; repetition = s.repetition }

-- the numbers on a path through this field
abbrev pub numbers_of_field : Field → ℕ → List Step → List ℕ
numbers_of_field f k p = own_number (rep_view f.rep) k (λ j. shape_numbers (shape_view f.shape) j p)

numbers_first : (f : Field) (fs : List Field) (k : ℕ) (s : Step) (p : List Step) → numbers_in (fields_view (f ∷ fs)) k (s ∷ p)
    ≡ by_place s.place (numbers_of_field f k p) (λ i. numbers_in (fields_view fs) (k + fields_in f) (record { place = i; repetition = s.repetition } ∷ p))
numbers_first f fs k s p = rw (view-field f) refl

module _ (fs : List Field) (k : ℕ) (f : Field) (n : ℕ) (s : Step) (p : List Step) (more : k < length fs) (here : f ≡ get_or fs k f) where
  at_place : (i : ℕ) → s.place - k ≡ i → numbers_in (fields_view (drop k fs)) n (counted_from k s ∷ p)
      ≡ by_place i (numbers_of_field f n p) (λ j. numbers_in (fields_view (drop (k + 1) fs)) (n + fields_in f) (record { place = j; repetition = s.repetition } ∷ p))
  at_place i e =
      ap (λ (gs : List Field). numbers_in (fields_view gs) n (counted_from k s ∷ p)) (from_field fs k f more here)
      ∙ numbers_first f (drop (k + 1) fs) n (counted_from k s) p
      ∙ ap (λ (x : ℕ). by_place x (numbers_of_field f n p) (λ j. numbers_in (fields_view (drop (k + 1) fs)) (n + fields_in f) (record { place = j; repetition = s.repetition } ∷ p))) e

  -- the path goes through the field at k
  pub goes_through : k ≡ s.place → numbers_in (fields_view (drop k fs)) n (counted_from k s ∷ p) ≡ numbers_of_field f n p
  goes_through e = at_place 0 (omega (arith, e))

  -- it goes through a later one
  pub goes_past : k < s.place → numbers_in (fields_view (drop k fs)) n (counted_from k s ∷ p)
      ≡ numbers_in (fields_view (drop (k + 1) fs)) (n + fields_in f) (counted_from (k + 1) s ∷ p)
  goes_past l = at_place (suc (s.place - (k + 1))) (omega (arith, l))

-- it goes through none
pub goes_nowhere : (fs : List Field) (k n : ℕ) (p : List Step) → length fs ≤ k → numbers_in (fields_view (drop k fs)) n p ≡ []
goes_nowhere fs k n p end = ap (λ (gs : List Field). numbers_in (fields_view gs) n p) (drop_all k fs end)

-- it is at its end
pub at_end : (fs : Fields) (n : ℕ) (p : List Step) → length p < 1 → numbers_in fs n p ≡ []
at_end no_fields n p l = refl
at_end (field m r s fs) n [] l = refl
at_end (field m r s fs) n (t ∷ p) l = absurd (omega (arith, l))

-- ---- there are no more of them than the fields are deep

own_deep : (r : Repetition) (k n : ℕ) (below : ℕ → List ℕ) → ((j : ℕ) → length (below j) ≤ n) → length (own_number r k below) ≤ 1 + n
own_deep required k n below h = let x = h k in omega (arith, x)
own_deep optional k n below h = let x = h k in omega (arith, x)
own_deep repeated k n below h = let x = h (suc k) in omega (arith, x)

place_deep : (i n m : ℕ) (first : List ℕ) (later : ℕ → List ℕ) → length first ≤ n → ((j : ℕ) → length (later j) ≤ m)
    → length (by_place i first later) ≤ max n m
place_deep zero n m first later h g = omega (arith, h)
place_deep (suc i) n m first later h g = let x = g i in omega (arith, x)

mutual
  pub numbers_deep : (fs : Fields) (k : ℕ) (p : List Step) → length (numbers_in fs k p) ≤ depth fs
  numbers_deep no_fields k p = omega arith
  numbers_deep (field m r s fs) k [] = omega arith
  numbers_deep (field m r s fs) k (t ∷ p) =
      place_deep t.place (1 + shape_depth s) (depth fs) (own_number r k (λ j. shape_numbers s j p))
      (λ i. numbers_in fs (k + (repetition_count r + shape_repeated_fields s)) (record { place = i; repetition = t.repetition } ∷ p))
      (own_deep r k (shape_depth s) (λ j. shape_numbers s j p) (λ j. shape_deep s j p))
      (λ i. numbers_deep fs (k + (repetition_count r + shape_repeated_fields s)) (record { place = i; repetition = t.repetition } ∷ p))

  shape_deep : (s : Shape) (k : ℕ) (p : List Step) → length (shape_numbers s k p) ≤ shape_depth s
  shape_deep (leaf j) k p = omega arith
  shape_deep (group fs) k p = numbers_deep fs k p
