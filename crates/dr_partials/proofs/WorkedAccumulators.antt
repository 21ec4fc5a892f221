-- What is gathered of values, joined, and given, by computation.
use Rattle.std.proofs.Common.{arith, lit≤}
use Rattle.std.specs.Prelude.{◌≡◌, ℕ, ◌+◌, ◌-◌, ◌^◌, List, [], ◌∷◌, map, true, false, pos, neg_ℤ, Option, Some, None, codes, refl}
use Rattle.dr_meaning.specs.Record.{Value, bool_value, int_value, text_value}
use Rattle.dr_meaning.specs.Query.{Aggregate, count, sum, least, greatest, no_entries}
use Rattle.dr_partials.specs.Accumulators.{counted, summed, least_of, greatest_of, aggregate_of, empty_accumulator, join, take_value, take_row, accumulated, result_of}
use Rattle.dr_partials.specs.Partials.{lines, grouped}
use Rattle.dr_partials.specs.PartialBounds.{CanBeOf, PartialCanBeOf, is_of_64_bits}

abbrev all : List Aggregate
all = count ∷ sum ∷ least ∷ greatest ∷ []

abbrev whole : ℕ → Value
whole n = int_value (pos n)

-- 4, NULL, -7
abbrev some_numbers : List (Option Value)
some_numbers = Some (whole 4) ∷ None ∷ Some (int_value (neg_ℤ (pos 7))) ∷ []

-- NULL, 9
abbrev more_numbers : List (Option Value)
more_numbers = None ∷ Some (whole 9) ∷ []

-- NULL isn't taken
pub of_some : map (λ a. accumulated a some_numbers) all
    ≡ counted 2 ∷ summed (Some (neg_ℤ (pos 3))) ∷ least_of (Some (int_value (neg_ℤ (pos 7)))) ∷ greatest_of (Some (whole 4)) ∷ []
of_some = refl

pub of_more : map (λ a. accumulated a more_numbers) all
    ≡ counted 1 ∷ summed (Some (pos 9)) ∷ least_of (Some (whole 9)) ∷ greatest_of (Some (whole 9)) ∷ []
of_more = refl

pub of_both : map (λ a. join (accumulated a some_numbers) (accumulated a more_numbers)) all
    ≡ counted 3 ∷ summed (Some (pos 6)) ∷ least_of (Some (int_value (neg_ℤ (pos 7)))) ∷ greatest_of (Some (whole 9)) ∷ []
of_both = refl

-- the other way round
pub of_both_turned : map (λ a. join (accumulated a more_numbers) (accumulated a some_numbers)) all
    ≡ counted 3 ∷ summed (Some (pos 6)) ∷ least_of (Some (int_value (neg_ℤ (pos 7)))) ∷ greatest_of (Some (whole 9)) ∷ []
of_both_turned = refl

-- of nothing, and beside nothing: SUM of nothing beside SUM of something
pub of_nothing : map (λ a. accumulated a (None ∷ [])) all ≡ counted 0 ∷ summed None ∷ least_of None ∷ greatest_of None ∷ []
of_nothing = refl

pub beside_nothing : map (λ a. join (accumulated a []) (accumulated a more_numbers)) all
    ≡ counted 1 ∷ summed (Some (pos 9)) ∷ least_of (Some (whole 9)) ∷ greatest_of (Some (whole 9)) ∷ []
beside_nothing = refl

pub nothing_beside : map (λ a. join (accumulated a more_numbers) (accumulated a [])) all
    ≡ counted 1 ∷ summed (Some (pos 9)) ∷ least_of (Some (whole 9)) ∷ greatest_of (Some (whole 9)) ∷ []
nothing_beside = refl

pub both_nothing : map (λ a. result_of (join (empty_accumulator a) (empty_accumulator a))) all ≡ Some (whole 0) ∷ None ∷ None ∷ None ∷ []
both_nothing = refl

-- what they give
pub given : map (λ a. result_of (accumulated a some_numbers)) all
    ≡ Some (whole 2) ∷ Some (int_value (neg_ℤ (pos 3))) ∷ Some (int_value (neg_ℤ (pos 7))) ∷ Some (whole 4) ∷ []
given = refl

-- one value more, NULL, a row more
pub taken : map (λ a. take_value (accumulated a some_numbers) (Some (whole 5))) all
    ≡ counted 3 ∷ summed (Some (pos 2)) ∷ least_of (Some (int_value (neg_ℤ (pos 7)))) ∷ greatest_of (Some (whole 5)) ∷ []
taken = refl

pub null_taken : map (λ a. take_value (accumulated a some_numbers) None) all ≡ map (λ a. accumulated a some_numbers) all
null_taken = refl

pub row_taken : take_row (counted 2) ≡ counted 3
row_taken = refl

-- truth values and texts: COUNT, MIN and MAX alone are asked of them
pub of_texts : map (λ a. accumulated a (Some (text_value (codes "b")) ∷ Some (text_value (codes "ab")) ∷ [])) (count ∷ least ∷ greatest ∷ [])
    ≡ counted 2 ∷ least_of (Some (text_value (codes "ab"))) ∷ greatest_of (Some (text_value (codes "b"))) ∷ []
of_texts = refl

pub of_truths : map (λ a. accumulated a (Some (bool_value true) ∷ Some (bool_value false) ∷ [])) (count ∷ least ∷ greatest ∷ [])
    ≡ counted 2 ∷ least_of (Some (bool_value false)) ∷ greatest_of (Some (bool_value true)) ∷ []
of_truths = refl

pub kinds : map (λ a. aggregate_of (empty_accumulator a)) all ≡ all
kinds = refl

-- ---- of how many values

-- a count is of as many at least, and a sum of 2^63 or less is of one
pub of_two : CanBeOf 2 (counted 2) × CanBeOf 2 (summed (Some (pos (2 ^ 64)))) × CanBeOf 2 (summed (Some (neg_ℤ (pos (2 ^ 64))))) × CanBeOf 0 (summed None) × CanBeOf 0 (least_of (Some (whole 1)))
of_two = (lit≤ tt, lit≤ tt, lit≤ tt, tt, tt)

pub not_of_two : (CanBeOf 2 (counted 3) → ⊥) × (CanBeOf 2 (summed (Some (pos (2 ^ 64 + 1)))) → ⊥) × (CanBeOf 2 (summed (Some (neg_ℤ (pos (2 ^ 64 + 1))))) → ⊥)
not_of_two = (λ h. omega (arith, h), λ h. omega (arith, h), λ h. omega (arith, h))

-- of groups each accumulator, of lines nothing
pub partial_of_one : PartialCanBeOf 1 (grouped (record { keys = []; accumulators = counted 1 ∷ counted 0 ∷ [] } ∷ record { keys = None ∷ []; accumulators = counted 1 ∷ [] } ∷ [])) × PartialCanBeOf 0 (lines (no_entries ∷ []))
partial_of_one = (((lit≤ tt, (lit≤ tt, tt)), ((lit≤ tt, tt), tt)), tt)

pub not_of_one : (PartialCanBeOf 1 (grouped (record { keys = []; accumulators = counted 1 ∷ counted 2 ∷ [] } ∷ [])) → ⊥) × (PartialCanBeOf 1 (grouped (record { keys = []; accumulators = [] } ∷ record { keys = None ∷ []; accumulators = counted 2 ∷ [] } ∷ [])) → ⊥)
not_of_one = (λ h. let k = h.0.1.0 in omega (arith, k), λ h. let k = h.1.0.0 in omega (arith, k))

-- whole numbers of 64 bits
pub numbers_of_64_bits : map is_of_64_bits (Some (whole (2 ^ 63 - 1)) ∷ Some (int_value (neg_ℤ (pos (2 ^ 63)))) ∷ Some (whole (2 ^ 63)) ∷ Some (int_value (neg_ℤ (pos (2 ^ 63 + 1)))) ∷ None ∷ Some (bool_value true) ∷ Some (text_value []) ∷ [])
    ≡ true ∷ true ∷ false ∷ false ∷ true ∷ true ∷ true ∷ []
numbers_of_64_bits = refl
