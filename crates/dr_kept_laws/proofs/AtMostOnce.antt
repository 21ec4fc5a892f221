-- Instances at the end of a chain have at most one row each.
use Rattle.std.proofs.Common.{◌≡◌, ℕ, zero, suc, ◌+◌, ◌≤◌, List, [], ◌∷◌, length, true, Option, None, Some, refl, sym, ap, subst, ◌∙◌, true≢false, arith}
use Rattle.std.proofs.lemmas.Bool.{and_parts}
use Rattle.dr_meaning.specs.Schema.{Repetition, required, optional, repeated, Fields, no_fields, field, Shape, leaf, group, repetition_count, shape_repeated_fields}
use Rattle.dr_meaning.specs.Path.{Step, is_leaf_path, is_shape_path, same_repetition, max_repetition}
use Rattle.dr_meaning.specs.WalkLaws.{triplets_of}
use Rattle.dr_meaning.proofs.ProjectionLemmas.{step}
use Rattle.dr_meaning.proofs.Blocks.{same_repetition-true}
use Rattle.dr_kept_laws.specs.Tours.{joined}
use Rattle.dr_kept_laws.specs.ChainNumbers.{own_number, numbers_in, shape_numbers}
use Rattle.dr_kept_laws.specs.Leavings.{tour_leavings}
use Rattle.dr_kept_laws.proofs.Selections.{never_empty}
use Rattle.dr_kept_laws.proofs.OffChain.{IsWithin}
use Rattle.dr_kept_laws.proofs.ChainHeads.{HeadApart, apart_below}
use Rattle.dr_moves.specs.Context.{Context, with_value}
use Rattle.dr_moves.specs.Tour.{Tour, over, saw, inside, moves_of}
use Rattle.dr_moves.specs.Condition.{Watch, rest_below}

-- leaf i has at most one triplet in each instance at the chain's end
abbrev pub IsOnce : ℕ → Option (List ℕ) → Tour → Type 0
IsOnce i r over = Unit {0}
IsOnce i r (saw j t T) = IsOnce i r T
IsOnce i r (inside k B T) = (rest_below k r ≡ Some [] → length (triplets_of i (moves_of B)) ≤ 1) × IsOnce i (rest_below k r) B × IsOnce i r T

pub joined_once : (i : ℕ) (r : Option (List ℕ)) (T U : Tour) → IsOnce i r T → IsOnce i r U → IsOnce i r (joined T U)
joined_once i r over U h g = g
joined_once i r (saw j t T) U h g = joined_once i r T U h g
joined_once i r (inside k B T) U h g = (h.0, h.1, joined_once i r T U h.2 g)

pub off_once : (i : ℕ) (T : Tour) → IsOnce i None T
off_once i over = tt
off_once i (saw j t T) = off_once i T
off_once i (inside k B T) = (λ e. absurd (cc), off_once i B, off_once i T)

pub apart_once : (low high i : ℕ) (N : List ℕ) → HeadApart low high N → (T : Tour) → IsWithin low high T → IsOnce i (Some N) T
apart_once low high i N h over v = tt
apart_once low high i N h (saw j t T) v = apart_once low high i N h T v
apart_once low high i N h (inside k B T) v =
    let e : rest_below k (Some N) ≡ None = apart_below low high k v.0 v.1 N h in
    (λ z. absurd (none_some (rest_below k (Some N)) e z), subst (λ (r : Option (List ℕ)). IsOnce i r B) (sym e) (off_once i B), apart_once low high i N h T v.2)
  where
    none_some : (r : Option (List ℕ)) → r ≡ None → r ≡ Some [] → ⊥
    none_some r x z = cc

-- without branches
pub bare_once : (w : Watch) (c : Context) (i : ℕ) (r : Option (List ℕ)) (T : Tour) → tour_leavings w None c T ≡ [] → IsOnce i r T
bare_once w c i r over h = tt
bare_once w c i r (saw j t T) h = bare_once w (with_value j t.value c) i r T h
bare_once w c i r (inside k B T) h = absurd (never_empty (tour_leavings w None c B) _ _ h)

-- ---- a path has as many numbers as repeated fields

abbrev ShapeCounted : Shape → List Step → Type 0
ShapeCounted s p = (k : ℕ) → is_shape_path s p ≡ true → length (shape_numbers s k p) ≡ max_repetition p

abbrev FieldsCounted : Fields → Repetition → List Step → Type 0
FieldsCounted fs e p = (j k : ℕ) → is_leaf_path fs (step j e ∷ p) ≡ true → length (numbers_in fs k (step j e ∷ p)) ≡ repetition_count e + max_repetition p

through_counted : (m : List ℕ) (r : Repetition) (s : Shape) (fs : Fields) (e : Repetition) (p : List Step) → ShapeCounted s p → FieldsCounted fs e p → FieldsCounted (field m r s fs) e p
through_counted m r s fs e p f g zero k h =
    let w : (same_repetition e r ≡ true) × (is_shape_path s p ≡ true) = and_parts _ _ h in
    own r (λ j. f j w.1) ∙ ap (λ (x : Repetition). repetition_count x + max_repetition p) (sym (same_repetition-true e r w.0))
  where
    own : (r : Repetition) → ((j : ℕ) → length (shape_numbers s j p) ≡ max_repetition p) → length (own_number r k (λ j. shape_numbers s j p)) ≡ repetition_count r + max_repetition p
    own required x = let y : length (shape_numbers s k p) ≡ max_repetition p = x k in omega (arith, y)
    own optional x = let y : length (shape_numbers s k p) ≡ max_repetition p = x k in omega (arith, y)
    own repeated x = let y : length (shape_numbers s (suc k) p) ≡ max_repetition p = x (suc k) in omega (arith, y)
through_counted m r s fs e p f g (suc j) k h = g j (k + (repetition_count r + shape_repeated_fields s)) h

mutual
  fields_counted : (fs : Fields) (e : Repetition) (p : List Step) → FieldsCounted fs e p
  fields_counted no_fields e p j k h = absurd (true≢false (sym h))
  fields_counted (field m r s fs) e p j k h = through_counted m r s fs e p (λ k h. shape_counted s p k h) (λ j k h. fields_counted fs e p j k h) j k h

  pub shape_counted : (s : Shape) (p : List Step) → ShapeCounted s p
  shape_counted (leaf j) [] k h = refl
  shape_counted (leaf j) (t ∷ p) k h = absurd (true≢false (sym h))
  shape_counted (group no_fields) [] k h = absurd (true≢false (sym h))
  shape_counted (group (field m r s fs)) [] k h = absurd (true≢false (sym h))
  shape_counted (group fs) (t ∷ p) k h = fields_counted fs t.repetition p t.place k h
