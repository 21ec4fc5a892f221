-- Values and NULLs that one aggregate takes one after another.
use Rattle.std.specs.Prelude.{ℕ, List, [], ◌∷◌, map, replicate, get_or, slice_set, Option, Some, None}
use Rattle.dr_meaning.specs.Record.{Value}
use Rattle.dr_meaning.specs.Column.{Triplet}
use Rattle.dr_levels.specs.Views.{triplets_view}
use Rattle.dr_partials.specs.Accumulators.{Accumulator}
use Rattle.dr_partials.specs.Partials as meant
use Rattle.dr_partials.specs.Putting.{Put}
use Rattle.dr_group.specs.declared.gathering.Gathering.{Gathering}
use Rattle.dr_group.specs.declared.many.Many.{Many}
use Rattle.dr_group.specs.Gathering.{take_by, take_at_by}
use Rattle.dr_group.specs.Groups.{no_group, with_accumulators, put_of}

-- what they are, in order
abbrev pub many_view : Many → List (Option Value)
many_view (Many.Column c) = map (λ (t : Triplet). t.value) (triplets_view c)
many_view (Many.Nulls n) = replicate n None

-- an accumulator takes each
abbrev pub take_each_by : Gathering → List (Option Value) → Accumulator → Accumulator
take_each_by k [] x = x
take_each_by k (v ∷ vs) x = take_each_by k vs (take_by k v x)

-- the accumulator at this place takes each
abbrev pub take_each_at : List Gathering → ℕ → List (Option Value) → List Accumulator → List Accumulator
take_each_at ks i [] xs = xs
take_each_at ks i (v ∷ vs) xs = take_each_at ks i vs (take_at_by ks i v xs)

-- the group of a number takes each
abbrev pub each_taken_at : List Gathering → ℕ → ℕ → List (Option Value) → List meant.Group → List meant.Group
each_taken_at ks n i vs gs = slice_set gs n (with_accumulators (get_or gs n no_group) (take_each_at ks i vs (get_or gs n no_group).accumulators))

-- what is put so: each with this key tuple
abbrev pub many_puts : List (Option Value) → ℕ → List (Option Value) → List Put
many_puts tuple i vs = map (λ (v : Option Value). put_of tuple (Some (record { aggregate = i; value = v }))) vs
