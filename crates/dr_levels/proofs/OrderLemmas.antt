-- The orders of the leaves of a group, field by field.
use Rattle.std.specs.Prelude.{◌≡◌, ℕ, zero, suc, ◌+◌, List, [], ◌∷◌, ◌++◌, ◌==◌, false, if◌then◌else◌}
use Rattle.std.proofs.Common.{refl, sym, ap, ◌∙◌, arith, add-one, append_assoc, append-nil, ◌<◌, ◌≤◌, length, get_or, drop}
use Rattle.std.proofs.lemmas.List.{drop_all, drop_more}
use Rattle.std.proofs.lemmas.Bool.Decides.{nat_tests}
use Rattle.dr_meaning.specs.Path.{Step}
use Rattle.dr_meaning.specs.Schema as tree
use Rattle.dr_meaning.specs.Automaton.{Pick, first_picks, first_picks_if, later_picks, later_picks_if, schema_order_in, shape_schema_order, near_order, shape_near_order, far_order, shape_far_order, unless_repeated, where_repeated}
use Rattle.dr_nested.specs.declared.shape.Field.{Field}
use Rattle.dr_nested.specs.Views.{rep_view, shape_view, fields_view}
use Rattle.dr_nested.proofs.ViewLemmas.{view-field}
use Rattle.dr_levels.specs.Orders.{picks_at}

-- the picks as the fields from a place on count them
abbrev pub shifted : ℕ → List Pick → List Pick
shifted zero F = F
shifted (suc k) F = later_picks (shifted k F)

zero_is_no_suc : (k : ℕ) → (zero == suc k) ≡ false
zero_is_no_suc k = grind (arith, nat_tests)

suc_is_not_zero : (k : ℕ) → (suc k == zero) ≡ false
suc_is_not_zero k = grind (arith, nat_tests)

same_test : (i k : ℕ) → (suc i == suc k) ≡ (i == k)
same_test i k = grind (arith, nat_tests)

abbrev pick : List Step → ℕ → Pick
pick p i = record { rest = p; index = i }

behind_if-is : (j : ℕ) (p : List Step) (i : ℕ) (F : List Pick) → first_picks_if j p i F ≡ (if j == zero then pick p i ∷ F else F)
behind_if-is zero p i F = refl
behind_if-is (suc j) p i F = rw (suc_is_not_zero j) refl

behind_more : (p : List Step) (i : ℕ) (F : List Pick) → first_picks F ≡ picks_at zero F → first_picks (pick p i ∷ F) ≡ picks_at zero (pick p i ∷ F)
behind_more [] i F e = e
behind_more (s ∷ p) i F e = behind_if-is s.place p i (first_picks F) ∙ ap (λ (G : List Pick). if s.place == zero then pick p i ∷ G else G) e

behind-is : (F : List Pick) → first_picks F ≡ picks_at zero F
behind-is [] = refl
behind-is (f ∷ F) = behind_more f.rest f.index F (behind-is F)

beside_if-is : (k j : ℕ) (s : Step) (p : List Step) (i : ℕ) (F : List Pick) → picks_at k (later_picks_if j s p i F) ≡ (if j == suc k then pick p i ∷ picks_at k F else picks_at k F)
beside_if-is k zero s p i F = rw (zero_is_no_suc k) refl
beside_if-is k (suc j) s p i F = rw (same_test j k) refl

beside_more : (k : ℕ) (p : List Step) (i : ℕ) (F : List Pick) → picks_at k (later_picks F) ≡ picks_at (suc k) F → picks_at k (later_picks (pick p i ∷ F)) ≡ picks_at (suc k) (pick p i ∷ F)
beside_more k [] i F e = e
beside_more k (s ∷ p) i F e = beside_if-is k s.place s p i (later_picks F) ∙ ap (λ (G : List Pick). if s.place == suc k then pick p i ∷ G else G) e

beside-is : (k : ℕ) (F : List Pick) → picks_at k (later_picks F) ≡ picks_at (suc k) F
beside-is k [] = refl
beside-is k (f ∷ F) = beside_more k f.rest f.index F (beside-is k F)

shifted-is : (j k : ℕ) (F : List Pick) → picks_at j (shifted k F) ≡ picks_at (k + j) F
shifted-is j zero F = let e : j ≡ 0 + j = omega arith in ap (λ (i : ℕ). picks_at i F) e
shifted-is j (suc k) F = let e : k + suc j ≡ suc k + j = omega arith in beside-is j (shifted k F) ∙ shifted-is (suc j) k F ∙ ap (λ (i : ℕ). picks_at i F) e

behind_shifted : (k : ℕ) (F : List Pick) → first_picks (shifted k F) ≡ picks_at k F
behind_shifted k F = let e : k + 0 ≡ k = omega arith in behind-is (shifted k F) ∙ shifted-is zero k F ∙ ap (λ (i : ℕ). picks_at i F) e

-- ---- an order of a group, one field more

module _ (order_in : tree.Fields → List Pick → List ℕ) (order_of : Field → List Pick → List ℕ)
    (first : (f : Field) (fs : List Field) (F : List Pick) → order_in (fields_view (f ∷ fs)) F ≡ order_of f (first_picks F) ++ order_in (fields_view fs) (later_picks F)) where
  one_more : (f : Field) (fs : List Field) (k : ℕ) (F : List Pick) (done added : List ℕ) → added ≡ order_of f (picks_at k F)
      → (done ++ added) ++ order_in (fields_view fs) (shifted (k + 1) F) ≡ done ++ order_in (fields_view (f ∷ fs)) (shifted k F)
  one_more f fs k F done added e =
      append_assoc done added (order_in (fields_view fs) (shifted (k + 1) F))
      ∙ ap (λ (j : ℕ). done ++ (added ++ order_in (fields_view fs) (shifted j F))) (add-one k)
      ∙ ap (λ (xs : List ℕ). done ++ (xs ++ order_in (fields_view fs) (later_picks (shifted k F)))) (e ∙ ap (order_of f) (sym (behind_shifted k F)))
      ∙ ap (λ (xs : List ℕ). done ++ xs) (sym (first f fs (shifted k F)))

  next_field : (fs : List Field) (k : ℕ) (f : Field) (F : List Pick) (done added now : List ℕ) → k < length fs → f ≡ get_or fs k f → added ≡ order_of f (picks_at k F) → now ≡ done ++ added
      → now ++ order_in (fields_view (drop (k + 1) fs)) (shifted (k + 1) F) ≡ done ++ order_in (fields_view (drop k fs)) (shifted k F)
  next_field fs k f F done added now more here e n =
      let next : drop k fs ≡ f ∷ drop (k + 1) fs = drop_more fs k f more ∙ ap (λ (g : Field). g ∷ drop (k + 1) fs) (sym here) in
      ap (λ (xs : List ℕ). xs ++ order_in (fields_view (drop (k + 1) fs)) (shifted (k + 1) F)) n
      ∙ one_more f (drop (k + 1) fs) k F done added e
      ∙ ap (λ (gs : List Field). done ++ order_in (fields_view gs) (shifted k F)) (sym next)

  last_field : ((F : List Pick) → order_in tree.no_fields F ≡ []) → (fs : List Field) (k : ℕ) (F : List Pick) (done : List ℕ) → length fs ≤ k
      → done ++ order_in (fields_view (drop k fs)) (shifted k F) ≡ done
  last_field none fs k F done end =
      ap (λ (gs : List Field). done ++ order_in (fields_view gs) (shifted k F)) (drop_all k fs end)
      ∙ ap (λ (xs : List ℕ). done ++ xs) (none (shifted k F))
      ∙ append-nil done

abbrev pub schema_order_of : Field → List Pick → List ℕ
schema_order_of f F = shape_schema_order (shape_view f.shape) F

schema_first : (f : Field) (fs : List Field) (F : List Pick) → schema_order_in (fields_view (f ∷ fs)) F ≡ schema_order_of f (first_picks F) ++ schema_order_in (fields_view fs) (later_picks F)
schema_first f fs F = rw (view-field f) refl

pub schema_next : (fs : List Field) (k : ℕ) (f : Field) (F : List Pick) (done added now : List ℕ) → k < length fs → f ≡ get_or fs k f → added ≡ schema_order_of f (picks_at k F) → now ≡ done ++ added
    → now ++ schema_order_in (fields_view (drop (k + 1) fs)) (shifted (k + 1) F) ≡ done ++ schema_order_in (fields_view (drop k fs)) (shifted k F)
schema_next = next_field schema_order_in schema_order_of schema_first

pub schema_last : (fs : List Field) (k : ℕ) (F : List Pick) (done : List ℕ) → length fs ≤ k → done ++ schema_order_in (fields_view (drop k fs)) (shifted k F) ≡ done
schema_last = last_field schema_order_in schema_order_of schema_first (λ F. refl)

abbrev pub near_order_of : Field → List Pick → List ℕ
near_order_of f F = unless_repeated (rep_view f.rep) (shape_near_order (shape_view f.shape) F)

near_first : (f : Field) (fs : List Field) (F : List Pick) → near_order (fields_view (f ∷ fs)) F ≡ near_order_of f (first_picks F) ++ near_order (fields_view fs) (later_picks F)
near_first f fs F = rw (view-field f) refl

pub near_next : (fs : List Field) (k : ℕ) (f : Field) (F : List Pick) (done added now : List ℕ) → k < length fs → f ≡ get_or fs k f → added ≡ near_order_of f (picks_at k F) → now ≡ done ++ added
    → now ++ near_order (fields_view (drop (k + 1) fs)) (shifted (k + 1) F) ≡ done ++ near_order (fields_view (drop k fs)) (shifted k F)
near_next = next_field near_order near_order_of near_first

pub near_last : (fs : List Field) (k : ℕ) (F : List Pick) (done : List ℕ) → length fs ≤ k → done ++ near_order (fields_view (drop k fs)) (shifted k F) ≡ done
near_last = last_field near_order near_order_of near_first (λ F. refl)

abbrev pub far_order_of : Field → List Pick → List ℕ
far_order_of f F = where_repeated (rep_view f.rep) (shape_near_order (shape_view f.shape) F) ++ shape_far_order (shape_view f.shape) F

far_first : (f : Field) (fs : List Field) (F : List Pick) → far_order (fields_view (f ∷ fs)) F ≡ far_order_of f (first_picks F) ++ far_order (fields_view fs) (later_picks F)
far_first f fs F = rw (view-field f) refl

pub far_next : (fs : List Field) (k : ℕ) (f : Field) (F : List Pick) (done added now : List ℕ) → k < length fs → f ≡ get_or fs k f → added ≡ far_order_of f (picks_at k F) → now ≡ done ++ added
    → now ++ far_order (fields_view (drop (k + 1) fs)) (shifted (k + 1) F) ≡ done ++ far_order (fields_view (drop k fs)) (shifted k F)
far_next = next_field far_order far_order_of far_first

pub far_last : (fs : List Field) (k : ℕ) (F : List Pick) (done : List ℕ) → length fs ≤ k → done ++ far_order (fields_view (drop k fs)) (shifted k F) ≡ done
far_last = last_field far_order far_order_of far_first (λ F. refl)
