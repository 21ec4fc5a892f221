-- The numbers on a leaf's path name the repeated fields of its chain.
use Rattle.std.proofs.Common.{◌≡◌, ℕ, zero, suc, ◌+◌, List, [], ◌∷◌, ◌++◌, true, Option, Some, refl, sym, ap, ap₂, ◌∙◌, append_assoc, true≢false, arith}
use Rattle.std.specs.Prelude.{map}
use Rattle.std.specs.List.{slice_get}
use Rattle.std.proofs.lemmas.Bool.{and_parts}
use Rattle.dr_meaning.specs.Schema.{Repetition, required, optional, repeated, Fields, no_fields, field, Shape, leaf, group, repetition_count, shape_repeated_fields}
use Rattle.dr_meaning.specs.Path.{Step, chain, chain_end, up_to, is_leaf_path, is_shape_path, same_repetition}
use Rattle.dr_meaning.specs.Walk.{own_path, repeated_paths_from, shape_repeated_paths, repeated_paths}
use Rattle.dr_meaning.proofs.ProjectionLemmas.{step}
use Rattle.dr_meaning.proofs.Blocks.{same_repetition-true}
use Rattle.dr_meaning.proofs.NestingLemmas.{shape_length, Numbered, numbered_shape, numbered_rest, numbered_own, renumbered}
use Rattle.dr_kept_laws.specs.ChainNumbers.{own_number, numbers_in, shape_numbers, numbered_path, NumbersNameChain}

module _ (whole : Fields) where
  -- the chain of a path behind another
  abbrev pub named : List Step → List (List Step) → List (Option (List Step))
  named q cs = map (λ (c : List Step). Some (q ++ c)) cs

  named_behind : (q : List Step) (s : Step) (cs : List (List Step)) → named (q ++ s ∷ []) cs ≡ named q (map (λ (c : List Step). s ∷ c) cs)
  named_behind q s [] = refl
  named_behind q s (c ∷ cs) = ap₂ (λ (x : List Step) (y : List (Option (List Step))). Some x ∷ y) (append_assoc q (s ∷ []) c) (named_behind q s cs)

  abbrev ShapeNames : Shape → List Step → Type 0
  ShapeNames s p = (q : List Step) (k : ℕ) → is_shape_path s p ≡ true → Numbered whole [] q (shape_repeated_paths s) k → map (numbered_path whole) (shape_numbers s k p) ≡ named q (chain p)

  abbrev FieldsName : Fields → Repetition → List Step → Type 0
  FieldsName fs e p = (q : List Step) (i a j k : ℕ) → a ≡ i + j → is_leaf_path fs (step j e ∷ p) ≡ true → Numbered whole [] q (repeated_paths_from fs i) k
      → map (numbered_path whole) (numbers_in fs k (step j e ∷ p)) ≡ named q (chain (step a e ∷ p))

  own_named : (q : List Step) (i k : ℕ) (r : Repetition) (s : Shape) (p : List Step) (rest : List (List Step)) → is_shape_path s p ≡ true → ShapeNames s p → Numbered whole [] q (own_path (step i r) r (shape_repeated_paths s) ++ rest) k
      → map (numbered_path whole) (own_number r k (λ j. shape_numbers s j p)) ≡ named q (chain (step i r ∷ p))
  own_named q i k required s p rest h f u =
      f (q ++ step i required ∷ []) k h (renumbered whole [] (q ++ step i required ∷ []) (shape_repeated_paths s) _ k (omega arith) (numbered_shape whole [] q (step i required) required (shape_repeated_paths s) rest k u)) ∙ named_behind q (step i required) (chain p)
  own_named q i k optional s p rest h f u =
      f (q ++ step i optional ∷ []) k h (renumbered whole [] (q ++ step i optional ∷ []) (shape_repeated_paths s) _ k (omega arith) (numbered_shape whole [] q (step i optional) optional (shape_repeated_paths s) rest k u)) ∙ named_behind q (step i optional) (chain p)
  own_named q i k repeated s p rest h f u =
      let o : (j : ℕ) × (k ≡ suc j) × (slice_get (repeated_paths whole) j ≡ Some (q ++ step i repeated ∷ [])) = numbered_own whole [] q (step i repeated) (shape_repeated_paths s) rest k u in
      ap₂ (λ (x : Option (List Step)) (y : List (Option (List Step))). x ∷ y)
      (ap (numbered_path whole) o.1 ∙ o.2)
      (f (q ++ step i repeated ∷ []) (suc k) h (renumbered whole [] (q ++ step i repeated ∷ []) (shape_repeated_paths s) _ (suc k) (omega arith) (numbered_shape whole [] q (step i repeated) repeated (shape_repeated_paths s) rest k u))
      ∙ named_behind q (step i repeated) (chain p))

  through_named : (m : List ℕ) (r : Repetition) (s : Shape) (fs : Fields) (e : Repetition) (p : List Step) → ShapeNames s p → FieldsName fs e p → FieldsName (field m r s fs) e p
  through_named m r s fs e p f g q i a zero k o h u =
      let w : (same_repetition e r ≡ true) × (is_shape_path s p ≡ true) = and_parts _ _ h in
      let x : e ≡ r = same_repetition-true e r w.0 in
      let y : a ≡ i = omega (arith, o) in
      own_named q i k r s p (repeated_paths_from fs (suc i)) w.1 f u ∙ ap₂ (λ (b : ℕ) (c : Repetition). named q (chain (step b c ∷ p))) (sym y) (sym x)
  through_named m r s fs e p f g q i a (suc j) k o h u =
      g q (suc i) a j (k + (repetition_count r + shape_repeated_fields s)) (omega (arith, o)) h
      (renumbered whole [] q (repeated_paths_from fs (suc i)) _ _ (ap (λ (x : ℕ). k + (repetition_count r + x)) (shape_length s)) (numbered_rest whole [] q (step i r) r (shape_repeated_paths s) (repeated_paths_from fs (suc i)) k u))

  mutual
    fields_name : (fs : Fields) (e : Repetition) (p : List Step) → FieldsName fs e p
    fields_name no_fields e p q i a j k o h u = absurd (true≢false (sym h))
    fields_name (field m r s fs) e p q i a j k o h u = through_named m r s fs e p (λ q k h u. shape_names s p q k h u) (λ q i a j k o h u. fields_name fs e p q i a j k o h u) q i a j k o h u

    shape_names : (s : Shape) (p : List Step) → ShapeNames s p
    shape_names (leaf w) [] q k h u = refl
    shape_names (leaf w) (t ∷ p) q k h u = absurd (true≢false (sym h))
    shape_names (group no_fields) [] q k h u = absurd (true≢false (sym h))
    shape_names (group (field m r s fs)) [] q k h u = absurd (true≢false (sym h))
    shape_names (group fs) (t ∷ p) q k h u = fields_name fs t.repetition p q 0 t.place t.place k (omega arith) h u

-- ---- the numbers of a path's level

abbrev ShapeLevels : Shape → List Step → Type 0
ShapeLevels s p = (k : ℕ) → is_shape_path s p ≡ true → shape_numbers s k (chain_end p) ≡ shape_numbers s k p

abbrev FieldsLevel : Fields → Repetition → List Step → Type 0
FieldsLevel fs e p = (j k : ℕ) → is_leaf_path fs (step j e ∷ p) ≡ true → numbers_in fs k (chain_end (step j e ∷ p)) ≡ numbers_in fs k (step j e ∷ p)

no_numbers : (fs : Fields) (k : ℕ) → numbers_in fs k [] ≡ []
no_numbers no_fields k = refl
no_numbers (field m r s fs) k = refl

pub nothing_numbered : (s : Shape) (k : ℕ) → shape_numbers s k [] ≡ []
nothing_numbered (leaf w) k = refl
nothing_numbered (group fs) k = no_numbers fs k

through_level : (m : List ℕ) (r : Repetition) (s : Shape) (fs : Fields) (e : Repetition) (p : List Step) → ShapeLevels s p → FieldsLevel fs e p → FieldsLevel (field m r s fs) e p
through_level m r s fs e p f g zero k h =
    let w : (same_repetition e r ≡ true) × (is_shape_path s p ≡ true) = and_parts _ _ h in
    by_level (chain_end p) e (same_repetition-true e r w.0) (λ j. f j w.1)
  where
    by_own : (r : Repetition) (L : List Step) → ((j : ℕ) → shape_numbers s j L ≡ shape_numbers s j p) → own_number r k (λ j. shape_numbers s j L) ≡ own_number r k (λ j. shape_numbers s j p)
    by_own required L x = x k
    by_own optional L x = x k
    by_own repeated L x = ap (λ (y : List ℕ). k ∷ y) (x (suc k))

    by_end : (e : Repetition) → e ≡ r → ((j : ℕ) → shape_numbers s j [] ≡ shape_numbers s j p) → numbers_in (field m r s fs) k (up_to (step 0 e) []) ≡ own_number r k (λ j. shape_numbers s j p)
    by_end required z x = sym (nothing_numbered s k) ∙ x k ∙ ap (λ (c : Repetition). own_number c k (λ j. shape_numbers s j p)) z
    by_end optional z x = sym (nothing_numbered s k) ∙ x k ∙ ap (λ (c : Repetition). own_number c k (λ j. shape_numbers s j p)) z
    by_end repeated z x = by_own r [] x

    by_level : (L : List Step) (e : Repetition) → e ≡ r → ((j : ℕ) → shape_numbers s j L ≡ shape_numbers s j p) → numbers_in (field m r s fs) k (up_to (step 0 e) L) ≡ own_number r k (λ j. shape_numbers s j p)
    by_level [] e z x = by_end e z x
    by_level (t ∷ L) e z x = by_own r (t ∷ L) x
through_level m r s fs e p f g (suc j) k h = by_level (chain_end p) e (g j (k + (repetition_count r + shape_repeated_fields s)) h)
  where
    by_end : (e : Repetition) (N : List ℕ) → numbers_in fs (k + (repetition_count r + shape_repeated_fields s)) (up_to (step j e) []) ≡ N → numbers_in (field m r s fs) k (up_to (step (suc j) e) []) ≡ N
    by_end required N x = sym (no_numbers fs (k + (repetition_count r + shape_repeated_fields s))) ∙ x
    by_end optional N x = sym (no_numbers fs (k + (repetition_count r + shape_repeated_fields s))) ∙ x
    by_end repeated N x = x

    by_level : (L : List Step) (e : Repetition) → numbers_in fs (k + (repetition_count r + shape_repeated_fields s)) (up_to (step j e) L) ≡ numbers_in fs (k + (repetition_count r + shape_repeated_fields s)) (step j e ∷ p)
        → numbers_in (field m r s fs) k (up_to (step (suc j) e) L) ≡ numbers_in fs (k + (repetition_count r + shape_repeated_fields s)) (step j e ∷ p)
    by_level [] e x = by_end e (numbers_in fs (k + (repetition_count r + shape_repeated_fields s)) (step j e ∷ p)) x
    by_level (t ∷ L) e x = x

mutual
  fields_level : (fs : Fields) (e : Repetition) (p : List Step) → FieldsLevel fs e p
  fields_level no_fields e p j k h = absurd (true≢false (sym h))
  fields_level (field m r s fs) e p j k h = through_level m r s fs e p (λ k h. shape_levels s p k h) (λ j k h. fields_level fs e p j k h) j k h

  -- below a shape, the same
  pub shape_levels : (s : Shape) (p : List Step) → ShapeLevels s p
  shape_levels (leaf w) [] k h = refl
  shape_levels (leaf w) (t ∷ p) k h = absurd (true≢false (sym h))
  shape_levels (group no_fields) [] k h = absurd (true≢false (sym h))
  shape_levels (group (field m r s fs)) [] k h = absurd (true≢false (sym h))
  shape_levels (group fs) (t ∷ p) k h = fields_level fs t.repetition p t.place k h

pub numbers_name_chain : NumbersNameChain
numbers_name_chain fs p h = (shape_names fs (group fs) p [] 1 h (λ j q e. (j, omega arith, e)), shape_levels (group fs) p 1 h)
