-- Values that are taken one after another.
use Rattle.std.specs.Prelude.{◌≡◌, ℤ, pos, ◌+ℤ◌, fold, map, List, [], ◌∷◌, Bool, true, false, Option, Some, None}
use Rattle.std.specs.List.{list_all}
use Rattle.dr_meaning.specs.Record.{Value}
use Rattle.dr_levels.specs.Texts.{is_text}
use Rattle.dr_levels.specs.declared.values_ref.ValuesRef.{ValuesRef}
use Rattle.dr_partials.specs.Accumulators.{Accumulator, counted, summed, least_of, greatest_of, aggregate_of, join, take_value, accumulated}

-- one after another
abbrev pub take_each : Accumulator → List Value → Accumulator
take_each x [] = x
take_each x (v ∷ vs) = take_each (take_value x (Some v)) vs

abbrev pub is_counted : Accumulator → Bool
is_counted (counted n) = true
is_counted (summed s) = false
is_counted (least_of v) = false
is_counted (greatest_of v) = false

-- at the places of texts there are texts
abbrev pub has_texts : ValuesRef → Bool
has_texts (ValuesRef.Bools v) = true
has_texts (ValuesRef.Integers v) = true
has_texts (ValuesRef.Texts bytes places) = list_all (is_text bytes.now) places.now

-- the sum of numbers, added to what there is
abbrev pub sum_of : List ℤ → ℤ
sum_of [] = pos 0
sum_of (z ∷ zs) = z +ℤ sum_of zs

-- the best of numbers by a choice of one of two; none of none
abbrev pub IsBest : (ℤ → ℤ → ℤ) → List ℤ → Option ℤ → Type 0
IsBest f [] r = r ≡ None
IsBest f (z ∷ zs) r = r ≡ Some (fold f z zs)

-- values that are taken one after another are what is gathered of them, joined to what there was
abbrev pub TakenTogether : Type 0
TakenTogether = (x : Accumulator) (vs : List Value) → take_each x vs ≡ join x (accumulated (aggregate_of x) (map (λ (v : Value). Some v) vs))
