-- The selected leaves behind the fields of a group, one field after another.
use Rattle.std.specs.Prelude.{◌≡◌, ℕ, zero, suc, List, [], ◌∷◌, ◌==◌, false, if◌then◌else◌}
use Rattle.std.proofs.Common.{refl, sym, ap, ◌∙◌, arith}
use Rattle.std.proofs.lemmas.Bool.Decides.{nat_tests}
use Rattle.dr_meaning.specs.Path.{Step}
use Rattle.dr_meaning.specs.Automaton.{Pick, first_picks, first_picks_if, later_picks, later_picks_if}
use Rattle.dr_levels.specs.Orders.{pick_at, picks_at}
use Rattle.dr_levels.proofs.OrderLemmas.{shifted}

abbrev pick : List Step → ℕ → Pick
pick p i = record { rest = p; index = i }

shifted_nothing : (k : ℕ) → shifted k [] ≡ []
shifted_nothing zero = refl
shifted_nothing (suc k) = ap later_picks (shifted_nothing k)

shifted_later : (k : ℕ) (F : List Pick) → shifted (suc k) F ≡ shifted k (later_picks F)
shifted_later zero F = refl
shifted_later (suc k) F = ap later_picks (shifted_later k F)

suc_is_not_zero : (j : ℕ) → (suc j == zero) ≡ false
suc_is_not_zero j = grind (arith, nat_tests)

zero_is_no_suc : (k : ℕ) → (zero == suc k) ≡ false
zero_is_no_suc k = grind (arith, nat_tests)

same_test : (j k : ℕ) → (suc j == suc k) ≡ (j == k)
same_test j k = grind (arith, nat_tests)

first_here : (j : ℕ) (p : List Step) (i : ℕ) (G : List Pick) → first_picks_if j p i G ≡ (if j == zero then pick p i ∷ G else G)
first_here zero p i G = refl
first_here (suc j) p i G = rw (suc_is_not_zero j) refl

-- the first of the picks, at the field k
at_field : (k : ℕ) (p : List Step) (i : ℕ) (F : List Pick) → first_picks (shifted k (pick p i ∷ F)) ≡ pick_at k p i (first_picks (shifted k F))
at_field zero [] i F = refl
at_field zero (s ∷ p) i F = first_here s.place p i (first_picks F)
at_field (suc k) [] i F = ap first_picks (shifted_later k (pick [] i ∷ F)) ∙ ap first_picks (sym (shifted_later k F))
at_field (suc k) (s ∷ p) i F = ap first_picks (shifted_later k (pick (s ∷ p) i ∷ F)) ∙ by_place s.place s p i F k (λ t G. at_field k (t ∷ p) i G)
  where
    by_place : (j : ℕ) (s : Step) (p : List Step) (i : ℕ) (F : List Pick) (k : ℕ) → ((t : Step) (G : List Pick) → first_picks (shifted k (pick (t ∷ p) i ∷ G)) ≡ pick_at k (t ∷ p) i (first_picks (shifted k G)))
        → first_picks (shifted k (later_picks_if j s p i (later_picks F))) ≡ (if j == suc k then pick p i ∷ first_picks (shifted (suc k) F) else first_picks (shifted (suc k) F))
    by_place zero s p i F k f = ap first_picks (sym (shifted_later k F)) ∙ rw (zero_is_no_suc k) refl
    by_place (suc j) s p i F k f = f (record { place = j; repetition = s.repetition }) (later_picks F) ∙ rw (same_test j k, shifted_later k F) refl

pub behind_field : (k : ℕ) (F : List Pick) → first_picks (shifted k F) ≡ picks_at k F
behind_field k [] = ap first_picks (shifted_nothing k)
behind_field k (f ∷ F) = at_field k f.rest f.index F ∙ ap (pick_at k f.rest f.index) (behind_field k F)
