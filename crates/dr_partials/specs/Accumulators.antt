-- Accumulators: what an aggregate has gathered of values, so far or somewhere else (Dremel 2010, section 6).
use Rattle.std.specs.Prelude.{ℕ, ◌+◌, List, [], ◌∷◌, ℤ, ◌+ℤ◌, Option, Some, None, option_map}
use Rattle.dr_meaning.specs.Record.{Value, int_value}
use Rattle.dr_meaning.specs.Query.{Aggregate, count, sum, least, greatest, integer_sum, smaller, larger, count_value}

-- COUNT: how many; SUM: the exact sum; MIN and MAX: the best value; the last three have none where there was no value
pub data Accumulator : Type 0 where
  counted : ℕ → Accumulator
  summed : Option ℤ → Accumulator
  least_of : Option Value → Accumulator
  greatest_of : Option Value → Accumulator

-- which aggregate it is of
abbrev pub aggregate_of : Accumulator → Aggregate
aggregate_of (counted n) = count
aggregate_of (summed s) = sum
aggregate_of (least_of v) = least
aggregate_of (greatest_of v) = greatest

-- of no values
abbrev pub empty_accumulator : Aggregate → Accumulator
empty_accumulator count = counted 0
empty_accumulator sum = summed None
empty_accumulator least = least_of None
empty_accumulator greatest = greatest_of None

-- of one value
abbrev pub accumulator_of_one : Aggregate → Value → Accumulator
accumulator_of_one count v = counted 1
accumulator_of_one sum v = summed (Some (integer_sum (v ∷ [])))
accumulator_of_one least v = least_of (Some v)
accumulator_of_one greatest v = greatest_of (Some v)

-- of a value or NULL, which isn't taken
abbrev pub accumulator_of_cell : Aggregate → Option Value → Accumulator
accumulator_of_cell a None = empty_accumulator a
accumulator_of_cell a (Some v) = accumulator_of_one a v

-- both by the function, or the one that is there
abbrev pub join_options : {A : Type 0} → (A → A → A) → Option A → Option A → Option A
join_options f None b = b
join_options f (Some a) None = Some a
join_options f (Some a) (Some b) = Some (f a b)

-- what two of one aggregate have gathered together; of two aggregates the first
abbrev pub join : Accumulator → Accumulator → Accumulator
join (counted m) (counted n) = counted (m + n)
join (summed s) (summed t) = summed (join_options (λ x y. x +ℤ y) s t)
join (least_of v) (least_of w) = least_of (join_options smaller v w)
join (greatest_of v) (greatest_of w) = greatest_of (join_options larger v w)
join x y = x

-- a further value, or NULL, is taken
abbrev pub take_value : Accumulator → Option Value → Accumulator
take_value x v = join x (accumulator_of_cell (aggregate_of x) v)

-- COUNT(*) takes a further row, whatever is in it
abbrev pub take_row : Accumulator → Accumulator
take_row x = join x (counted 1)

-- what an aggregate gathers of values
abbrev pub accumulated : Aggregate → List (Option Value) → Accumulator
accumulated a [] = empty_accumulator a
accumulated a (v ∷ vs) = join (accumulator_of_cell a v) (accumulated a vs)

-- what it gives
abbrev pub result_of : Accumulator → Option Value
result_of (counted n) = count_value n
result_of (summed s) = option_map int_value s
result_of (least_of v) = v
result_of (greatest_of v) = v
