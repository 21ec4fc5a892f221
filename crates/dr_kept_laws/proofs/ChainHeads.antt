-- Where the numbers of a path in a part of a schema lie.
use Rattle.std.proofs.Common.{◌≡◌, ◌⊎◌, inl, inr, ℕ, zero, suc, ◌+◌, ◌<◌, ◌≤◌, List, [], ◌∷◌, Bool, Option, None, Some, refl, ap, ap₂, arith}
use Rattle.std.specs.Prelude.{◌++◌, if◌then◌else◌}
use Rattle.std.proofs.lemmas.Bool.{ne_eqb}
use Rattle.dr_meaning.specs.Schema.{Repetition, required, optional, repeated, Fields, no_fields, field, Shape, leaf, group, repetition_count, repeated_fields, shape_repeated_fields}
use Rattle.dr_meaning.specs.Path.{Step}
use Rattle.dr_meaning.proofs.ProjectionLemmas.{step}
use Rattle.dr_kept_laws.specs.ChainNumbers.{own_number, numbers_in, shape_numbers}
use Rattle.dr_kept_laws.specs.Leavings.{Leaving, tour_leavings}
use Rattle.dr_kept_laws.proofs.OffChain.{IsWithin}
use Rattle.dr_moves.specs.Context.{Context, with_value}
use Rattle.dr_moves.specs.Tour.{Tour, over, saw, inside, after}
use Rattle.dr_moves.specs.Condition.{Watch, some_true, rest_below, is_dropped}

-- the first of these numbers is from one on, below another; or not
abbrev pub HeadWithin : ℕ → ℕ → List ℕ → Type 0
HeadWithin low high [] = Unit {0}
HeadWithin low high (j ∷ N) = (low ≤ j) × (j < high)

abbrev pub HeadApart : ℕ → ℕ → List ℕ → Type 0
HeadApart low high [] = Unit {0}
HeadApart low high (j ∷ N) = (j < low) ⊎ (high ≤ j)

wider_head : (low high lower higher : ℕ) → lower ≤ low → high ≤ higher → (N : List ℕ) → HeadWithin low high N → HeadWithin lower higher N
wider_head low high lower higher a b [] h = tt
wider_head low high lower higher a b (j ∷ N) h = (omega (arith, a, h.0), omega (arith, b, h.1))

pub head_before : (low high l h : ℕ) → high ≤ l → (N : List ℕ) → HeadWithin low high N → HeadApart l h N
head_before low high l h a [] x = tt
head_before low high l h a (j ∷ N) x = inl (omega (arith, a, x.1))

pub head_behind : (low high l h : ℕ) → h ≤ low → (N : List ℕ) → HeadWithin low high N → HeadApart l h N
head_behind low high l h a [] x = tt
head_behind low high l h a (j ∷ N) x = inr (omega (arith, a, x.0))

-- the numbers of a path through a first field
pub own_within : (r : Repetition) (s : Shape) (k : ℕ) (p : List Step) → ((j : ℕ) → HeadWithin j (j + shape_repeated_fields s) (shape_numbers s j p))
    → HeadWithin k (k + (repetition_count r + shape_repeated_fields s)) (own_number r k (λ j. shape_numbers s j p))
own_within required s k p f = wider_head k (k + shape_repeated_fields s) k (k + (0 + shape_repeated_fields s)) (omega arith) (omega arith) (shape_numbers s k p) (f k)
own_within optional s k p f = wider_head k (k + shape_repeated_fields s) k (k + (0 + shape_repeated_fields s)) (omega arith) (omega arith) (shape_numbers s k p) (f k)
own_within repeated s k p f = (omega arith, omega arith)

through_within : (m : List ℕ) (r : Repetition) (s : Shape) (fs : Fields) (k : ℕ) (c : Repetition) (p : List Step) → ((j : ℕ) → HeadWithin j (j + shape_repeated_fields s) (shape_numbers s j p))
    → ((i j : ℕ) → HeadWithin j (j + repeated_fields fs) (numbers_in fs j (step i c ∷ p))) → (i : ℕ) → HeadWithin k (k + (repetition_count r + shape_repeated_fields s + repeated_fields fs)) (numbers_in (field m r s fs) k (step i c ∷ p))
through_within m r s fs k c p f g zero =
    wider_head k (k + (repetition_count r + shape_repeated_fields s)) k (k + (repetition_count r + shape_repeated_fields s + repeated_fields fs)) (omega arith) (omega arith) (own_number r k (λ j. shape_numbers s j p)) (own_within r s k p f)
through_within m r s fs k c p f g (suc i) =
    let j = k + (repetition_count r + shape_repeated_fields s) in
    wider_head j (j + repeated_fields fs) k (k + (repetition_count r + shape_repeated_fields s + repeated_fields fs)) (omega arith) (omega arith) (numbers_in fs j (step i c ∷ p)) (g i j)

mutual
  pub numbers_within : (fs : Fields) (k : ℕ) (p : List Step) → HeadWithin k (k + repeated_fields fs) (numbers_in fs k p)
  numbers_within no_fields k p = tt
  numbers_within (field m r s fs) k [] = tt
  numbers_within (field m r s fs) k (t ∷ p) = through_within m r s fs k t.repetition p (λ j. shape_numbers_within s j p) (λ i j. numbers_within fs j (step i t.repetition ∷ p)) t.place

  pub shape_numbers_within : (s : Shape) (k : ℕ) (p : List Step) → HeadWithin k (k + shape_repeated_fields s) (shape_numbers s k p)
  shape_numbers_within (leaf j) k p = tt
  shape_numbers_within (group fs) k p = numbers_within fs k p

-- ---- branches whose numbers are apart from a chain are off it

pub apart_below : (low high k : ℕ) → low ≤ k → k < high → (N : List ℕ) → HeadApart low high N → rest_below k (Some N) ≡ None
apart_below low high k a b [] h = refl
apart_below low high k a b (j ∷ N) h = ap (λ (x : Bool). if x then Some N else None) (ne_eqb k j (by_case h))
  where
    by_case : (j < low) ⊎ (high ≤ j) → k ≡ j → ⊥
    by_case (inl x) e = omega (arith, x, a, e)
    by_case (inr x) e = omega (arith, x, b, e)

pub apart_leavings : (low high : ℕ) (w : Watch) (N : List ℕ) → HeadApart low high N → (T : Tour) → IsWithin low high T → (c : Context) → tour_leavings w (Some N) c T ≡ tour_leavings w None c T
apart_leavings low high w N h over v c = refl
apart_leavings low high w N h (saw i t T) v c = apart_leavings low high w N h T v (with_value i t.value c)
apart_leavings low high w N h (inside k B T) v c =
    ap₂ (λ (x : Option (List ℕ)) (y : List Leaving). tour_leavings w x c B ++ record { number = k; dropped = is_dropped x (some_true w c B) } ∷ y)
    (apart_below low high k v.0 v.1 N h) (apart_leavings low high w N h T v.2 (after c B))
