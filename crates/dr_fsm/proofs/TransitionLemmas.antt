-- Where the automaton leads: only to its leaves, and to the end only behind the last leaf.
use Rattle.std.specs.Prelude.{◌≡◌, ◌↔◌, ℕ, zero, suc, ◌+◌, ◌<◌, ◌≤◌, ◌==◌, List, [], ◌∷◌, length, Bool, true, false, nat_le, if◌then◌else◌, Option, Some, None}
use Rattle.std.specs.List.{slice_get}
use Rattle.std.proofs.Common.{refl, sym, ap, ◌∙◌, arith, subst, get_or, inl, inr}
use Rattle.std.proofs.lemmas.Bool.{cases_lt}
use Rattle.std.proofs.lemmas.Bool.Decides.{nat_tests}
use Rattle.std.proofs.lemmas.Option.{slice_get_within, slice_get-get_or, slice_get_past}
use Rattle.dr_meaning.specs.Schema.{repetition_count}
use Rattle.dr_meaning.specs.Path.{Step, common, max_repetition}
use Rattle.dr_meaning.specs.Automaton.{first_common, transition, transition_by, transition_from}

-- ---- only to leaves

either_within : (b : Bool) (x y : Option ℕ) (j n : ℕ) → (x ≡ Some j → j < n) → (y ≡ Some j → j < n) → (if b then x else y) ≡ Some j → j < n
either_within true x y j n p q e = p e
either_within false x y j n p q e = q e

none_within : (j n : ℕ) → ◌≡◌ {A = Option ℕ} None (Some j) → j < n
none_within j n e = absurd (cc)

one_within : (i j n : ℕ) → i < n → ◌≡◌ {A = Option ℕ} (Some i) (Some j) → j < n
one_within i j n h e = let k : i ≡ j = cc in omega (arith, h, k)

first_common_within : (i : ℕ) (f : List Step) (l : ℕ) (gs : List (List Step)) (j n : ℕ) → i + length gs ≡ n → first_common i f l gs ≡ Some j → j < n
first_common_within i f l [] j n s e = none_within j n e
first_common_within i f l (g ∷ gs) j n s e =
    either_within (nat_le l (common f g)) (Some i) (first_common (suc i) f l gs) j n (one_within i j n (omega (arith, s)))
    (first_common_within (suc i) f l gs j n (omega (arith, s))) e

by_within : (order : List (List Step)) (f : List Step) (i : ℕ) (next : Option (List Step)) (l j : ℕ) → slice_get order (suc i) ≡ next → transition_by order f i next l ≡ Some j → j < length order
by_within order f i None l j h e = either_within (nat_le l 0) None (first_common 0 f l order) j (length order) (none_within j (length order)) (first_common_within 0 f l order j (length order) (omega arith)) e
by_within order f i (Some g) l j h e =
    either_within (nat_le l (common f g)) (Some (suc i)) (first_common 0 f l order) j (length order) (one_within (suc i) j (length order) (slice_get_within order (suc i) g h))
    (first_common_within 0 f l order j (length order) (omega arith)) e

from_within : (order : List (List Step)) (i l j : ℕ) (here : Option (List Step)) → transition_from order i l here ≡ Some j → j < length order
from_within order i l j None e = none_within j (length order) e
from_within order i l j (Some f) e = by_within order f i (slice_get order (suc i)) l j refl e

-- where a level leads, there is a leaf of the order
pub transition_within : (order : List (List Step)) (i l j : ℕ) → transition order i l ≡ Some j → j < length order
transition_within order i l j e = from_within order i l j (slice_get order i) e

-- ---- a leaf with its next leaf, and the last leaf

pub with_next : (order : List (List Step)) (i l : ℕ) (f g : List Step) → slice_get order i ≡ Some f → slice_get order (suc i) ≡ Some g → transition order i l ≡ (if nat_le l (common f g) then Some (suc i) else first_common 0 f l order)
with_next order i l f g a b = ap (transition_from order i l) a ∙ ap (λ (next : Option (List Step)). transition_by order f i next l) b

pub with_no_next : (order : List (List Step)) (i l : ℕ) (f : List Step) → slice_get order i ≡ Some f → slice_get order (suc i) ≡ None → transition order i l ≡ (if nat_le l 0 then None else first_common 0 f l order)
with_no_next order i l f a b = ap (transition_from order i l) a ∙ ap (λ (next : Option (List Step)). transition_by order f i next l) b

-- ---- each level that a leaf has leads to a leaf

same_place : (k : ℕ) → (k == k) ≡ true
same_place k = grind (arith, nat_tests)

at_most : (l d : ℕ) → l ≤ d → nat_le l d ≡ true
at_most l d h = grind (arith, nat_tests)

common_self : (p : List Step) → common p p ≡ max_repetition p
common_self [] = refl
common_self (s ∷ p) = ap (λ (b : Bool). if b then repetition_count s.repetition + common p p else 0) (same_place s.place) ∙ ap (λ (n : ℕ). repetition_count s.repetition + n) (common_self p)

no_leaf : (i : ℕ) → ◌≡◌ {A = Option ℕ} (Some i) None → ⊥
no_leaf i e = cc

not_none : (b : Bool) (i : ℕ) (other : Option ℕ) → (other ≡ None → ⊥) → (if b then Some i else other) ≡ None → ⊥
not_none true i other h e = no_leaf i e
not_none false i other h e = h e

found : (i : ℕ) (f : List Step) (l : ℕ) (gs : List (List Step)) (k : ℕ) → k < length gs → l ≤ common f (get_or gs k []) → first_common i f l gs ≡ None → ⊥
found i f l [] k h c e = absurd (omega (arith, h))
found i f l (g ∷ gs) zero h c e = no_leaf i (sym (ap (λ (b : Bool). if b then Some i else first_common (suc i) f l gs) (at_most l (common f g) c)) ∙ e)
found i f l (g ∷ gs) (suc k) h c e = not_none (nat_le l (common f g)) i (first_common (suc i) f l gs) (found (suc i) f l gs k (omega (arith, h)) c) e

-- the leaf itself has it in common with itself
found_itself : (order : List (List Step)) (i l : ℕ) → i < length order → l ≤ max_repetition (get_or order i []) → first_common 0 (get_or order i []) l order ≡ None → ⊥
found_itself order i l h m = found 0 (get_or order i []) l order i h (subst (λ (n : ℕ). l ≤ n) (sym (common_self (get_or order i []))) m)

none_at_zero : (l : ℕ) (other : Option ℕ) → l ≡ 0 → (if nat_le l 0 then None else other) ≡ None
none_at_zero l other e = ap (λ (b : Bool). if b then None else other) (at_most l 0 (omega (arith, e)))

zero_at_none : (b : Bool) (l : ℕ) (other : Option ℕ) → nat_le l 0 ≡ b → (other ≡ None → ⊥) → (if b then None else other) ≡ None → l ≡ 0
zero_at_none true l other t h e = grind (arith, nat_tests)
zero_at_none false l other t h e = absurd (h e)

behind_last : (order : List (List Step)) (i l : ℕ) → i < length order → length order ≤ suc i → l ≤ max_repetition (get_or order i []) → (transition order i l ≡ None) ↔ ((suc i ≡ length order) × (l ≡ 0))
behind_last order i l h last m =
    let f = get_or order i [] in
    let is : transition order i l ≡ (if nat_le l 0 then None else first_common 0 f l order) = with_no_next order i l f (slice_get-get_or order i [] h) (slice_get_past order (suc i) last) in
    (λ e. (omega (arith, h, last), zero_at_none (nat_le l 0) l (first_common 0 f l order) refl (found_itself order i l h m) (sym is ∙ e)), λ w. is ∙ none_at_zero l (first_common 0 f l order) w.1)

before_last : (order : List (List Step)) (i l : ℕ) → suc i < length order → l ≤ max_repetition (get_or order i []) → (transition order i l ≡ None) ↔ ((suc i ≡ length order) × (l ≡ 0))
before_last order i l more m =
    let f = get_or order i [] in
    let g = get_or order (suc i) [] in
    let h : i < length order = omega (arith, more) in
    let is : transition order i l ≡ (if nat_le l (common f g) then Some (suc i) else first_common 0 f l order) = with_next order i l f g (slice_get-get_or order i [] h) (slice_get-get_or order (suc i) [] more) in
    (λ e. absurd (not_none (nat_le l (common f g)) (suc i) (first_common 0 f l order) (found_itself order i l h m) (sym is ∙ e)), λ w. absurd (omega (arith, more, w.0)))

-- at each level that a leaf has, the automaton ends exactly behind the last leaf at level 0
pub ends_behind_last : (order : List (List Step)) (i l : ℕ) → i < length order → l ≤ max_repetition (get_or order i []) → (transition order i l ≡ None) ↔ ((suc i ≡ length order) × (l ≡ 0))
ends_behind_last order i l h m = elim (cases_lt (suc i) (length order)) [ inl more ↦ before_last order i l more m | inr last ↦ behind_last order i l h last m ]
