-- How selected leaves stand to a shape at the end of a path: below it, or apart, where what is put there is of no account to them.
use Rattle.std.proofs.Common.{◌≡◌, ◌⊎◌, inl, inr, ℕ, zero, suc, ◌+◌, List, [], ◌∷◌, ◌++◌, true, false, Some, refl, sym, ap, ap₂, ◌∙◌, append_assoc, arith}
use Rattle.std.specs.Prelude.{◌==◌}
use Rattle.std.specs.List.{slice_get, list_all}
use Rattle.std.proofs.lemmas.Bool.{and_parts, ne_eqb}
use Rattle.dr_meaning.specs.Schema.{Repetition, Fields, field, Shape, group}
use Rattle.dr_meaning.specs.Path.{Step, begins_with, is_leaf_path, is_shape_path, same_repetition}
use Rattle.dr_meaning.specs.Record.{Node, slot, Instances, inner, single}
use Rattle.dr_meaning.specs.Rows.{value_at}
use Rattle.dr_meaning.specs.Automaton.{Pick, picks, first_picks, later_picks}
use Rattle.dr_meaning.proofs.ProjectionLemmas.{step}
use Rattle.dr_meaning.proofs.Blocks.{same_repetition-true}
use Rattle.dr_meaning.proofs.WalkLemmas.{Without, Only, without_behind, without_beside, only_behind, beside_first, only_beside, behind_later}
use Rattle.dr_kept_laws.proofs.Selections.{leaf_selected, selected_only, no_path}
use Rattle.dr_made_laws.proofs.PathLemmas.{longer_apart, other_place}
use Rattle.dr_made_laws.proofs.RowFrames.{NodeFrame, record_row}

abbrev pub Below : Shape → List Step → List Pick → ℕ → List Step → Type 0
Below h pre G k q = (p : List Step) × (q ≡ pre ++ p) × Only k p G × (is_shape_path h p ≡ true)

abbrev pub Beside : List Step → (Instances → Node) → List Pick → ℕ → List Step → Type 0
Beside pre row G k q = Without k G × (begins_with pre q ≡ false) × ((xs ys : Instances) → value_at q (row xs) ≡ value_at q (row ys))

-- each selected leaf is below the shape, or beside it
abbrev pub Places : List (List Step) → Shape → List Step → (Instances → Node) → List Pick → Type 0
Places F h pre row G = (k : ℕ) (q : List Step) → slice_get F k ≡ Some q → Below h pre G k q ⊎ Beside pre row G k q

abbrev pub FieldsBelow : Fields → List Step → ℕ → List Pick → ℕ → List Step → Type 0
FieldsBelow fs pre j G k q = (i : ℕ) × (c : Repetition) × (p : List Step) × (q ≡ pre ++ step (j + i) c ∷ p) × Only k (step i c ∷ p) G × (is_leaf_path fs (step i c ∷ p) ≡ true)

abbrev pub FieldsBeside : List Step → ℕ → (Node → Node) → List Pick → ℕ → List Step → Type 0
FieldsBeside pre j whole G k q = Without k G × ((i : ℕ) (c : Repetition) → begins_with (pre ++ step (j + i) c ∷ []) q ≡ false) × ((m n : Node) → value_at q (whole m) ≡ value_at q (whole n))

-- the same of the fields of a node from place j on
abbrev pub FieldPlaces : List (List Step) → Fields → List Step → ℕ → (Node → Node) → List Pick → Type 0
FieldPlaces F fs pre j whole G = (k : ℕ) (q : List Step) → slice_get F k ≡ Some q → FieldsBelow fs pre j G k q ⊎ FieldsBeside pre j whole G k q

-- in the record all are below
pub record_places : (fs : Fields) (F : List (List Step)) → list_all (is_leaf_path fs) F ≡ true → Places F (group fs) [] record_row (picks F)
record_places fs F h k q e = inl (q, refl, selected_only F k q e, leaf_selected fs F k q h e)

-- from a group to its fields
pub group_places : (F : List (List Step)) (fs : Fields) (pre : List Step) (row : Instances → Node) (G : List Pick) → Places F (group fs) pre row G → FieldPlaces F fs pre 0 (λ n. row (single (inner n))) G
group_places F fs pre row G f k q e = by_place (f k q e)
  where
    by_path : (p : List Step) → q ≡ pre ++ p → Only k p G → is_shape_path (group fs) p ≡ true → FieldsBelow fs pre 0 G k q
    by_path [] a o u = absurd (no_path fs u)
    by_path (s ∷ p) a o u = (s.place, s.repetition, p, a ∙ ap (λ (i : ℕ). pre ++ step i s.repetition ∷ p) (same s.place), o, u)
      where
        same : (i : ℕ) → i ≡ 0 + i
        same i = omega arith

    by_place : Below (group fs) pre G k q ⊎ Beside pre row G k q → FieldsBelow fs pre 0 G k q ⊎ FieldsBeside pre 0 (λ n. row (single (inner n))) G k q
    by_place (inl x) = inl (by_path x.0 x.1 x.2 x.3)
    by_place (inr x) = inr (x.0, (λ i c. longer_apart pre (step (0 + i) c ∷ []) q x.1), (λ m n. x.2 (single (inner m)) (single (inner n))))

module _ (F : List (List Step)) (m : List ℕ) (r : Repetition) (h : Shape) (fs : Fields) (pre : List Step) (j : ℕ) (whole : Node → Node) (G : List Pick) (f : FieldPlaces F (field m r h fs) pre j whole G) (w : NodeFrame pre j whole) where
  at_first : (i : ℕ) → j ≡ j + i → i ≡ 0
  at_first i e = omega (arith, e)

  not_first : (i : ℕ) → (j == j + suc i) ≡ false
  not_first i = ne_eqb j (j + suc i) (omega arith)

  -- to the first field
  pub first_places : (n : Node) → Places F h (pre ++ step j r ∷ []) (λ ys. whole (slot ys n)) (first_picks G)
  first_places n k q e = by_place (f k q e)
    where
      by_field : (i : ℕ) (c : Repetition) (p : List Step) → q ≡ pre ++ step (j + i) c ∷ p → Only k (step i c ∷ p) G → is_leaf_path (field m r h fs) (step i c ∷ p) ≡ true
          → Below h (pre ++ step j r ∷ []) (first_picks G) k q ⊎ Beside (pre ++ step j r ∷ []) (λ ys. whole (slot ys n)) (first_picks G) k q
      by_field zero c p a o u =
          let x : (same_repetition c r ≡ true) × (is_shape_path h p ≡ true) = and_parts _ _ u in
          let z : j + 0 ≡ j = omega arith in
          inl (p, a ∙ ap₂ (λ (i : ℕ) (d : Repetition). pre ++ step i d ∷ p) z (same_repetition-true c r x.0) ∙ sym (append_assoc pre (step j r ∷ []) p), only_behind k c p G o, x.1)
      by_field (suc i) c p a o u = inr (
        behind_later k i c p G o,
        ap (begins_with (pre ++ step j r ∷ [])) a ∙ other_place pre [] p (step j r) (step (j + suc i) c) (not_first i),
        λ xs ys. ap (λ (q : List Step). value_at q (whole (slot xs n))) a ∙ w.values_in (j + suc i) (suc i) refl c p (slot xs n) ∙ sym (w.values_in (j + suc i) (suc i) refl c p (slot ys n)) ∙ ap (λ (q : List Step). value_at q (whole (slot ys n))) (sym a),
      )

      by_place : FieldsBelow (field m r h fs) pre j G k q ⊎ FieldsBeside pre j whole G k q → Below h (pre ++ step j r ∷ []) (first_picks G) k q ⊎ Beside (pre ++ step j r ∷ []) (λ ys. whole (slot ys n)) (first_picks G) k q
      by_place (inl x) = by_field x.0 x.1 x.2 x.3 x.4 x.5
      by_place (inr x) =
          let z : j + 0 ≡ j = omega arith in
          inr (without_behind k G x.0, ap (λ (i : ℕ). begins_with (pre ++ step i r ∷ []) q) (sym z) ∙ x.1 0 r, λ xs ys. x.2 (slot xs n) (slot ys n))

  -- to the others
  pub later_places : (ys : Instances) → FieldPlaces F fs pre (suc j) (λ n. whole (slot ys n)) (later_picks G)
  later_places ys k q e = by_place (f k q e)
    where
      moved : (i : ℕ) → j + suc i ≡ suc j + i
      moved i = omega arith

      by_field : (i : ℕ) (c : Repetition) (p : List Step) → q ≡ pre ++ step (j + i) c ∷ p → Only k (step i c ∷ p) G → is_leaf_path (field m r h fs) (step i c ∷ p) ≡ true
          → FieldsBelow fs pre (suc j) (later_picks G) k q ⊎ FieldsBeside pre (suc j) (λ n. whole (slot ys n)) (later_picks G) k q
      by_field zero c p a o u = inr (
        beside_first k c p G o,
        (λ i d. ap (begins_with (pre ++ step (suc j + i) d ∷ [])) a ∙ other_place pre [] p (step (suc j + i) d) (step (j + 0) c) (ne_eqb (suc j + i) (j + 0) (omega arith))),
        λ m n. ap (λ (q : List Step). value_at q (whole (slot ys m))) a ∙ w.values_in (j + 0) 0 refl c p (slot ys m) ∙ sym (w.values_in (j + 0) 0 refl c p (slot ys n)) ∙ ap (λ (q : List Step). value_at q (whole (slot ys n))) (sym a),
      )
      by_field (suc i) c p a o u = inl (i, c, p, a ∙ ap (λ (b : ℕ). pre ++ step b c ∷ p) (moved i), only_beside k i c p G o, u)

      by_place : FieldsBelow (field m r h fs) pre j G k q ⊎ FieldsBeside pre j whole G k q → FieldsBelow fs pre (suc j) (later_picks G) k q ⊎ FieldsBeside pre (suc j) (λ n. whole (slot ys n)) (later_picks G) k q
      by_place (inl x) = by_field x.0 x.1 x.2 x.3 x.4 x.5
      by_place (inr x) = inr (without_beside k G x.0, (λ i c. ap (λ (b : ℕ). begins_with (pre ++ step b c ∷ []) q) (sym (moved i)) ∙ x.1 (suc i) c), λ m n. x.2 (slot ys m) (slot ys n))
