-- How many values a partial can be of: what its numbers say of that, so that it is known how far they grow.
use Rattle.std.specs.Prelude.{◌≡◌, ℕ, ◌+◌, ◌*◌, ◌^◌, ◌≤◌, ⊤, Bool, true, List, [], ◌∷◌, length, Option, Some, None}
use Rattle.std.specs.List.{list_all}
use Rattle.std.specs.Int.RustNames.{unsigned_abs}
use Rattle.dr_meaning.specs.Schema.{Fields}
use Rattle.dr_meaning.specs.Record.{Value, int_value, in_int64}
use Rattle.dr_meaning.specs.Query.{Aggregate, Query}
use Rattle.dr_partials.specs.Accumulators.{Accumulator, counted, summed, least_of, greatest_of, accumulated}
use Rattle.dr_partials.specs.Partials.{Group, Partial, lines, grouped, merge}
use Rattle.dr_partials.specs.PartialTypes.{is_partial}

-- an accumulator can be of n values of 64 bits: it counts at most n, and its sum is of a size of at most n times 2^63
abbrev pub CanBeOf : ℕ → Accumulator → Type 0
CanBeOf n (counted m) = m ≤ n
CanBeOf n (summed None) = ⊤
CanBeOf n (summed (Some z)) = unsigned_abs z ≤ n * 2 ^ 63
CanBeOf n (least_of v) = ⊤
CanBeOf n (greatest_of v) = ⊤

abbrev pub AllCanBeOf : ℕ → List Accumulator → Type 0
AllCanBeOf n [] = ⊤
AllCanBeOf n (x ∷ xs) = CanBeOf n x × AllCanBeOf n xs

abbrev pub GroupsCanBeOf : ℕ → List Group → Type 0
GroupsCanBeOf n [] = ⊤
GroupsCanBeOf n (g ∷ gs) = AllCanBeOf n g.accumulators × GroupsCanBeOf n gs

-- no accumulator of a partial need have taken more than n values; lines have none
abbrev pub PartialCanBeOf : ℕ → Partial → Type 0
PartialCanBeOf n (lines os) = ⊤
PartialCanBeOf n (grouped gs) = GroupsCanBeOf n gs

-- a whole number of 64 bits, or no whole number
abbrev pub is_of_64_bits : Option Value → Bool
is_of_64_bits (Some (int_value z)) = in_int64 z
is_of_64_bits v = true

-- what is gathered of n values can be of n
abbrev pub GatheredCanBeOf : Type 0
GatheredCanBeOf = (a : Aggregate) (vs : List (Option Value)) → list_all is_of_64_bits vs ≡ true → CanBeOf (length vs) (accumulated a vs)

-- what is merged of a partial of m values and one of n can be of m + n
abbrev pub BoundsAddUp : Type 0
BoundsAddUp = (fs : Fields) (q : Query) (m n : ℕ) (p r : Partial) → is_partial fs q p ≡ true → is_partial fs q r ≡ true
    → PartialCanBeOf m p → PartialCanBeOf n r → PartialCanBeOf (m + n) (merge p r)
