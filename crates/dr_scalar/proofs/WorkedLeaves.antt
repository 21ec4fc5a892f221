-- Leaves of expressions, the last of them, and values by what was read of leaves.
use Rattle.std.specs.Prelude.{◌≡◌, ℕ, zero, suc, [], ◌∷◌, pos, true, Box, Option, Some, None, refl}
use Rattle.std.proofs.Common.{rules, sym, subst}
use Rattle.std.specs.declared.alloc.Global.{Global}
use Rattle.dr_meaning.specs.Record.{Value, int_value, bool_value, text_value}
use Rattle.dr_plan.specs.declared.expression.Comparison.{Comparison}
use Rattle.dr_plan.specs.declared.expression.Number as numbers
use Rattle.dr_plan.specs.declared.expression.Number.{Number}
use Rattle.dr_plan.specs.declared.expression.Number.TheVariants as number_variants
use Rattle.dr_plan.specs.declared.expression.Truth as truths
use Rattle.dr_plan.specs.declared.expression.Truth.{Truth}
use Rattle.dr_plan.specs.declared.expression.Truth.TheVariants as truth_variants
use Rattle.dr_scalar.specs.Leaves.{number_leaves, truth_leaves, tests_leaves, greatest}
use Rattle.dr_scalar.specs.LeafLaws.{SameRead}
use Rattle.dr_scalar.specs.OverSlots.{number_over, truth_over}
use Rattle.dr_scalar.proofs.SameReadLemmas.{same_number}

pub last_of_three : greatest (2 ∷ 5 ∷ 3 ∷ []) ≡ Some 5
last_of_three = refl

pub last_of_none : greatest [] ≡ None
last_of_none = refl

-- what was read of leaves 0 to 2: 4, a text and NULL
abbrev read : ℕ → Option Value
read zero = Some (int_value (pos 4))
read (suc zero) = Some (text_value (3 ∷ []))
read (suc (suc k)) = None

-- leaf 2 + leaf 0
module _ (a b : Box Number Global) where
  pub in_sum : a.value ≡ number_variants.Leaf 2 → b.value ≡ number_variants.Leaf 0 → number_leaves (number_variants.Add a b) ≡ 2 ∷ 0 ∷ []
  in_sum h g = search (rules, numbers.the_lemmas)

-- leaf 3 < leaf 1, of which the first is read last
abbrev less : Truth
less = truth_variants.Numbers Comparison.Less (number_variants.Leaf 3) (number_variants.Leaf 1)

pub in_less : truth_leaves less ≡ 3 ∷ 1 ∷ []
in_less = search (rules, truths.the_lemmas, numbers.the_lemmas)

pub last_in_less : greatest (truth_leaves less) ≡ Some 3
last_in_less = search (rules, truths.the_lemmas, numbers.the_lemmas)

-- and leaf 4 as a second test
pub in_tests : tests_leaves (less ∷ truth_variants.Leaf 4 ∷ []) ≡ 3 ∷ 1 ∷ 4 ∷ []
in_tests = search (rules, truths.the_lemmas, numbers.the_lemmas)

-- a text in the place of a number is none
pub no_number : number_over read (number_variants.Leaf 1) ≡ None
no_number = search (rules, numbers.the_lemmas)

pub a_number : number_over read (number_variants.Leaf 0) ≡ Some (int_value (pos 4))
a_number = search (rules, numbers.the_lemmas)

pub is_null : truth_over read (truth_variants.NumberIsNull (number_variants.Leaf 2)) ≡ Some (bool_value true)
is_null = search (rules, truths.the_lemmas, numbers.the_lemmas)

-- the same of leaves 0 and 2, and a number for leaf 1
abbrev read_again : ℕ → Option Value
read_again zero = Some (int_value (pos 4))
read_again (suc zero) = Some (int_value (pos 7))
read_again (suc (suc k)) = None

pub same_of_two : SameRead (2 ∷ 0 ∷ []) read read_again
same_of_two = (refl, (refl, tt))

-- so leaf 2 + leaf 0 is the same, though leaf 1 isn't
module _ (a b : Box Number Global) where
  pub same_sum : a.value ≡ number_variants.Leaf 2 → b.value ≡ number_variants.Leaf 0
      → number_over read (number_variants.Add a b) ≡ number_over read_again (number_variants.Add a b)
  same_sum h g =
      same_number read read_again (number_variants.Add a b) (subst (λ ks. SameRead ks read read_again) (sym (in_sum a b h g)) same_of_two)
