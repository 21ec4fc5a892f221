-- What aggregates gather, by their kinds.
use Rattle.std.specs.Prelude.{◌≡◌, ℕ, zero, suc, List, [], ◌∷◌, map, Option, Some, None, Result, Ok, Err}
use Rattle.std.specs.Ordering.{match_ordering}
use Rattle.dr_memory.specs.declared.NoMemory.{NoMemory}
use Rattle.dr_meaning.specs.Record.{Value}
use Rattle.dr_meaning.specs.Query.{Aggregate, GroupTerm, key, count_rows, aggregate, GroupItem, tuple_order}
use Rattle.dr_partials.specs.Accumulators.{Accumulator, counted, empty_accumulator, take_value, take_row}
use Rattle.dr_partials.specs.Partials.{Group}
use Rattle.dr_partials.specs.PartialTypes.{aggregates_among}
use Rattle.dr_partials.specs.Putting.{Taken, Put}
use Rattle.dr_plan.specs.Views.{fold_view}
use Rattle.dr_group.specs.declared.gathering.Gathering.{Gathering}

-- of no rows
abbrev pub empty_of : Gathering → Accumulator
empty_of Gathering.Rows = counted 0
empty_of (Gathering.Values f) = empty_accumulator (fold_view f)

-- a row is taken, or its value
abbrev pub take_by : Gathering → Option Value → Accumulator → Accumulator
take_by Gathering.Rows v x = take_row x
take_by (Gathering.Values f) v x = take_value x v

-- this became that, or nothing did
abbrev pub Becomes : {A : Type 0} → A → A → A → Result (Unit {0}) NoMemory → Type 0
Becomes before after meant (Ok done) = after ≡ meant
Becomes before after meant (Err e) = after ≡ before

-- ---- which aggregates a query has

-- the aggregate of values; none where rows are counted
abbrev pub gathering_view : Gathering → Option Aggregate
gathering_view Gathering.Rows = None
gathering_view (Gathering.Values f) = Some (fold_view f)

-- what an item gathers: an aggregate of values, or none for COUNT(*)
abbrev pub term_gathering : GroupTerm → Option Aggregate
term_gathering (key i) = None
term_gathering count_rows = None
term_gathering (aggregate a e) = Some a

-- what the aggregates among the items gather
abbrev pub gatherings_of : List GroupItem → List (Option Aggregate)
gatherings_of items = map term_gathering (aggregates_among items)

-- ---- what is put, by the aggregates

-- the accumulator at this place takes the value
abbrev pub take_at_by : List Gathering → ℕ → Option Value → List Accumulator → List Accumulator
take_at_by [] i v xs = xs
take_at_by (k ∷ ks) i v [] = []
take_at_by (k ∷ ks) zero v (x ∷ xs) = take_by k v x ∷ xs
take_at_by (k ∷ ks) (suc i) v (x ∷ xs) = x ∷ take_at_by ks i v xs

-- what is taken, if anything, goes into its accumulator
abbrev pub taken_by : List Gathering → Option Taken → List Accumulator → List Accumulator
taken_by ks None xs = xs
taken_by ks (Some t) xs = take_at_by ks t.aggregate t.value xs

-- a group with these accumulators, in which is taken what is put
abbrev pub group_by : List Gathering → Put → List Accumulator → Group
group_by ks p xs = record { keys = p.keys; accumulators = taken_by ks p.taken xs }

-- a group of the key tuple alone
abbrev pub new_group_by : List Gathering → Put → Group
new_group_by ks p = group_by ks p (map empty_of ks)

-- into the group of the key tuple among ascending ones, which is made where it isn't there
abbrev pub put_by : List Gathering → Put → List Group → List Group
put_by ks p [] = new_group_by ks p ∷ []
put_by ks p (g ∷ gs) = match_ordering (tuple_order p.keys g.keys) (new_group_by ks p ∷ g ∷ gs) (group_by ks p g.accumulators ∷ gs) (g ∷ put_by ks p gs)
