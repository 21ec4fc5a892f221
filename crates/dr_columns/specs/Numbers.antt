-- The numbers of the groups of rows, and what is put into groups by them.
use Rattle.std.specs.Prelude.{◌≡◌, ℕ, List, [], ◌∷◌, map, Bool, nat_lt, Option, Some, None}
use Rattle.std.specs.List.{list_all, slice_get, slice_index_or}
use Rattle.dr_meaning.specs.Record.{Value}
use Rattle.dr_meaning.specs.Query.{GroupItem}
use Rattle.dr_partials.specs.Putting.{Put}
use Rattle.dr_partials.specs.GroupPuts.{put_each}
use Rattle.dr_group.specs.Gathering.{gatherings_of}
use Rattle.dr_group.specs.Groups.{put_of}
use Rattle.dr_group.specs.Maps.{groups_view, gatherings_view}
use Rattle.dr_group.specs.declared.group_map.GroupMap.{GroupMap}

-- ---- numbers

-- the key tuples of the groups of these numbers
abbrev pub tuples_at : List (List (Option Value)) → List ℕ → List (List (Option Value))
tuples_at T ns = map (λ (n : ℕ). slice_index_or T n []) ns

-- each is the number of one of so many groups
abbrev pub are_among : ℕ → List ℕ → Bool
are_among count ns = list_all (λ (n : ℕ). nat_lt n count) ns

-- the key tuples of numbers stay
abbrev pub Stay : List (List (Option Value)) → List (List (Option Value)) → Type 0
Stay T U = (k : ℕ) (t : List (Option Value)) → slice_get T k ≡ Some t → slice_get U k ≡ Some t

-- ---- puts

-- a value for the ith aggregate into the group of a number
abbrev pub put_at : List (List (Option Value)) → ℕ → ℕ → Option Value → Put
put_at T n i v = put_of (slice_index_or T n []) (Some (record { aggregate = i; value = v }))

-- a row for the ith aggregate into the group of each of these key tuples
abbrev pub row_puts : ℕ → List (List (Option Value)) → List Put
row_puts i ts = map (λ (t : List (Option Value)). put_of t (Some (record { aggregate = i; value = None }))) ts

-- one of these values for it into each
abbrev pub value_puts : ℕ → List (List (Option Value)) → List (Option Value) → List Put
value_puts i [] vs = []
value_puts i (t ∷ ts) [] = []
value_puts i (t ∷ ts) (v ∷ vs) = put_of t (Some (record { aggregate = i; value = v })) ∷ value_puts i ts vs

-- ---- groups

-- where these are put yet, the groups are what they were where all of those are put
abbrev pub LeavesToPut : GroupMap → List Put → GroupMap → List Put → Type 0
LeavesToPut old all now rest = (items : List GroupItem) → gatherings_of items ≡ gatherings_view old → put_each items rest (groups_view now) ≡ put_each items all (groups_view old)

-- these are put
abbrev pub HasPut : GroupMap → List Put → GroupMap → Type 0
HasPut old all now = LeavesToPut old all now []
