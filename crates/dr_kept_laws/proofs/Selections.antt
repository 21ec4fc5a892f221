-- Leaves of a selection, by their places; lists that are empty.
use Rattle.std.proofs.Common.{◌≡◌, ℕ, zero, suc, ◌+◌, List, [], ◌∷◌, ◌++◌, true, Some, subst, arith, true≢false, sym}
use Rattle.std.specs.List.{slice_get, list_all}
use Rattle.std.proofs.lemmas.Bool.{and_parts}
use Rattle.dr_meaning.specs.Schema.{Fields, no_fields, field}
use Rattle.dr_meaning.specs.Path.{Step, is_leaf_path}
use Rattle.dr_meaning.specs.Automaton.{picks}
use Rattle.dr_meaning.proofs.WalkLemmas.{Only, picks_only}

-- a selected leaf is one of the schema's
pub leaf_selected : (fs : Fields) (F : List (List Step)) (i : ℕ) (p : List Step) → list_all (is_leaf_path fs) F ≡ true → slice_get F i ≡ Some p → is_leaf_path fs p ≡ true
leaf_selected fs [] i p h e = absurd (cc)
leaf_selected fs (q ∷ F) zero p h e = let x : q ≡ p = cc in subst (λ (y : List Step). is_leaf_path fs y ≡ true) x (and_parts (is_leaf_path fs q) (list_all (is_leaf_path fs) F) h).0
leaf_selected fs (q ∷ F) (suc i) p h e = leaf_selected fs F i p (and_parts (is_leaf_path fs q) (list_all (is_leaf_path fs) F) h).1 e

-- one pick has its place
pub selected_only : (F : List (List Step)) (i : ℕ) (p : List Step) → slice_get F i ≡ Some p → Only i p (picks F)
selected_only F i p e = subst (λ (x : ℕ). Only x p (picks F)) (no_shift i) (picks_only i 0 p F e)
  where
    no_shift : (n : ℕ) → 0 + n ≡ n
    no_shift n = omega arith

-- no leaf is a group's own node
pub no_path : (fs : Fields) → is_leaf_path fs [] ≡ true → ⊥
no_path no_fields h = true≢false (sym h)
no_path (field m r s fs) h = true≢false (sym h)

pub both_empty : {X : Type 0} (xs ys : List X) → xs ++ ys ≡ [] → (xs ≡ []) × (ys ≡ [])
both_empty [] ys e = (cc, e)
both_empty (x ∷ xs) ys e = absurd (cc)

pub never_empty : {X : Type 0} (xs : List X) (y : X) (ys : List X) → xs ++ y ∷ ys ≡ [] → ⊥
never_empty [] y ys e = cc
never_empty (x ∷ xs) y ys e = cc
