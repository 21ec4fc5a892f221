-- Laws of accumulators.
use Rattle.std.specs.Prelude.{◌≡◌, List, [], ◌∷◌, ◌++◌, Option}
use Rattle.dr_meaning.specs.Record.{Value}
use Rattle.dr_meaning.specs.Query.{Aggregate, aggregated, present_values}
use Rattle.dr_partials.specs.Accumulators.{Accumulator, aggregate_of, empty_accumulator, join, take_value, accumulated, result_of}

-- what is gathered of values, and of others behind them, is what is gathered of the first joined with what is gathered of the others
abbrev pub JoinOfBoth : Type 0
JoinOfBoth = (a : Aggregate) (vs ws : List (Option Value)) → accumulated a (vs ++ ws) ≡ join (accumulated a vs) (accumulated a ws)

-- with one more value it is what takes this value
abbrev pub TakesNextValue : Type 0
TakesNextValue = (a : Aggregate) (vs : List (Option Value)) (v : Option Value) → accumulated a (vs ++ v ∷ []) ≡ take_value (accumulated a vs) v

-- it gives the aggregate of the values that aren't NULL
abbrev pub GivesAggregate : Type 0
GivesAggregate = (a : Aggregate) (vs : List (Option Value)) → result_of (accumulated a vs) ≡ aggregated a (present_values vs)

-- accumulators of one aggregate can be joined in any order and any grouping
abbrev pub JoinIsAssociative : Type 0
JoinIsAssociative = (x y z : Accumulator) → aggregate_of x ≡ aggregate_of y → aggregate_of y ≡ aggregate_of z → join (join x y) z ≡ join x (join y z)

abbrev pub JoinIsCommutative : Type 0
JoinIsCommutative = (x y : Accumulator) → aggregate_of x ≡ aggregate_of y → join x y ≡ join y x

-- the empty accumulator adds nothing
abbrev pub EmptyIsNeutral : Type 0
EmptyIsNeutral = (x : Accumulator) → (join (empty_accumulator (aggregate_of x)) x ≡ x) × (join x (empty_accumulator (aggregate_of x)) ≡ x)
