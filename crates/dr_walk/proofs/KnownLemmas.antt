-- What a walk knows of each leaf, behind what came and behind a move.
use Rattle.std.proofs.Common.{◌≡◌, ◌≢◌, ◌⊎◌, inl, inr, ℕ, ◌≤◌, Bool, true, false, Option, Some, None, refl, sym, ap, ap₂, subst, ◌∙◌, true≢false, arith}
use Rattle.std.specs.Prelude.{◌==◌}
use Rattle.std.proofs.lemmas.Bool.{eqb-true}
use Rattle.std.proofs.lemmas.Bool.Decides.{nat_tests}
use Rattle.dr_walk.specs.Walking.{is_known, then_wanted, given_leaf, WantsNext}
use Rattle.dr_walk.specs.declared.level_move.LevelMove.{LevelMove}
use Rattle.dr_walk.proofs.WalkLemmas.{known_before, known_one}

pub known_after : (P : ℕ → Type 0) (given n : ℕ) (wanted : Option ℕ) → ((i : ℕ) → is_known wanted given i ≡ true → P i) → ((i : ℕ) → n ≤ i → P i) → ((i : ℕ) → wanted ≡ Some i → P i)
    → (i : ℕ) → is_known (then_wanted given n wanted) given i ≡ true → P i
known_after P given n None k past here i h = k i h
known_after P given n (Some leaf) k past here i h = by_bit (i == leaf) refl
  where
    itself : (a b : ℕ) → a ≡ b → true ≡ (a == b)
    itself a b s = grind (arith, nat_tests)

    by_side : (is_known (Some leaf) given i ≡ true) ⊎ (n ≤ i) → P i
    by_side (inl q) = k i q
    by_side (inr p) = past i p

    by_bit : (b : Bool) → (i == leaf) ≡ b → P i
    by_bit true z = subst P (sym (eqb-true i leaf z)) (here leaf refl)
    by_bit false z = by_side (known_before given n leaf i (λ s. true≢false (itself i leaf s ∙ z)) h)

pub known_next : (P : ℕ → Type 0) (m : Option LevelMove) (o after : Option ℕ) (before given : ℕ) → WantsNext m o after → (m ≡ None → given ≡ before) → ((s : LevelMove) → m ≡ Some s → given ≢ 0)
    → ((i : ℕ) → is_known o before i ≡ true → P i) → (i : ℕ) → is_known after given i ≡ true → P i
known_next P None o after before given w s d k i h = k i (sym (ap₂ (λ (p : Option ℕ) (g : ℕ). is_known p g i) w (s refl)) ∙ h)
known_next P (Some m) o after before given w s d k i h = k i (ap (λ (p : Option ℕ). is_known p before i) w.0)

-- of the leaf whose triplet is given it isn't known what comes next
pub not_given : (m : LevelMove) (o after : Option ℕ) (given i : ℕ) → WantsNext (Some m) o after → given ≢ 0 → is_known after given i ≡ true → given_leaf m ≡ Some i → ⊥
not_given m o after given i w d h q = known_one given i i d (sym (ap (λ (p : Option ℕ). is_known p given i) (w.1 ∙ q)) ∙ h) refl
