-- What a record query makes over the moves of records: values taken for aggregates, and the objects of instances, each as it is left.
use Rattle.std.specs.Prelude.{ℕ, zero, suc, ◌+◌, List, [], ◌∷◌, ◌++◌, map, Bool, false, ◌==◌, nat_lt, if◌then◌else◌, Option, None, Some}
use Rattle.dr_meaning.specs.Path.{Step, same_path}
use Rattle.dr_meaning.specs.Record.{Value}
use Rattle.dr_meaning.specs.Query.{RecordTerm, expression, within, RecordItem, Object, no_entries, cell, objects_of, aggregated, present_values}
use Rattle.dr_meaning.specs.Query.{Levels, no_levels, deeper, term_chain, leads_to_items, with_list}
use Rattle.dr_moves.specs.Context.{Context}
use Rattle.dr_kept_laws.specs.GroupFlow.{Reading, fired_if}

-- the object of an instance of the repeated field of this number, of number 0 a record's; a value for the item at this place
pub data Made : Type 0 where
  built : ℕ → Object → Made
  taken : ℕ → Option Value → Made

-- an item, and how its expression is read: the last leaf of it, none where it reads none, and its value by what was read
pub record ReadItem : Type 0 where
  pub item : RecordItem
  pub reading : Reading (Option Value)

-- the items alone
abbrev pub items_of : List ReadItem → List RecordItem
items_of rs = map (λ (r : ReadItem). r.item) rs

-- the values that were taken for an item, in order
abbrev pub values_for : ℕ → List Made → List (Option Value)
values_for j [] = []
values_for j (built k o ∷ ms) = values_for j ms
values_for j (taken i v ∷ ms) = if i == j then v ∷ values_for j ms else values_for j ms

-- the objects of the instances of a repeated field, in order
abbrev pub objects_for : ℕ → List Made → List Object
objects_for k [] = []
objects_for k (built i o ∷ ms) = if i == k then o ∷ objects_for k ms else objects_for k ms
objects_for k (taken i v ∷ ms) = objects_for k ms

-- ---- at a triplet

-- a value is taken for an aggregate at the last leaf of its expression; other expressions are evaluated where an instance is left
abbrev pub taken_for : RecordTerm → Reading (Option Value) → ℕ → ℕ → Context → List Made
taken_for (expression e) r j i c = []
taken_for (within a e node) r j i c = map (taken j) (fired_if r.leaf r.fires i c)

-- of items of which the first has the place j
abbrev pub taken_from : ℕ → List ReadItem → ℕ → Context → List Made
taken_from j [] i c = []
taken_from j (r ∷ rs) i c = taken_for r.item.term r.reading j i c ++ taken_from (suc j) rs i c

-- of all items
abbrev pub seen_items : List ReadItem → ℕ → Context → List Made
seen_items rs i c = taken_from 0 rs i c

-- ---- where an instance is left

-- how many levels there are
abbrev pub level_count : Levels → ℕ
level_count no_levels = 0
level_count (deeper names p below beside) = suc (level_count below + level_count beside)

-- a level alone: its path, and the levels below it
pub record Level : Type 0 where
  pub path : List Step
  pub below : Levels

-- the level with the number k, where the first of these has the number j: each comes before those below it, and these before those beside it
abbrev pub level_from : ℕ → Levels → ℕ → Option Level
level_from j no_levels k = None
level_from j (deeper names p below beside) k = if k == j then Some (record { path = p; below = below }) else
    if nat_lt k (suc j + level_count below) then level_from (suc j) below k else level_from (suc j + level_count below) beside k

-- the values over which an aggregate goes: those taken for it, or the one of an expression without leaves
abbrev pub gathered : Option ℕ → Option Value → List (Option Value) → List (Option Value)
gathered None v vs = v ∷ []
gathered (Some i) v vs = vs

-- the value of the item at place j
abbrev pub value_made : RecordTerm → Reading (Option Value) → ℕ → Context → List Made → Option Value
value_made (expression e) r j c inner = r.fires c
value_made (within a e node) r j c inner = aggregated a (present_values (gathered r.leaf (r.fires c) (values_for j inner)))

-- the items of a level, of which the first of all has the place j, before the rest of the object
abbrev pub cells_made : ℕ → List ReadItem → List Step → Context → List Made → Object → Object
cells_made j [] p c inner rest = rest
cells_made j (r ∷ rs) p c inner rest = if same_path p (term_chain r.item.term)
    then cell r.item.name (value_made r.item.term r.reading j c inner) (cells_made (suc j) rs p c inner rest)
    else cells_made (suc j) rs p c inner rest

-- for each of these levels, of which the first has the number k, one list of the objects of its instances, where it leads to items
abbrev pub lists_made : List RecordItem → ℕ → Levels → List Made → Object
lists_made items k no_levels inner = no_entries
lists_made items k (deeper names p below beside) inner = with_list (leads_to_items items p) names (objects_of (objects_for k inner))
    (lists_made items (suc k + level_count below) beside inner)

-- the object of an instance of a level, whose next level would have the number k
abbrev pub object_made : List ReadItem → ℕ → Level → Context → List Made → Object
object_made rs k l c inner = cells_made 0 rs l.path c inner (lists_made (items_of rs) k l.below inner)

-- whether the item at a place belongs to a level
abbrev pub is_own : List RecordItem → List Step → ℕ → Bool
is_own [] p j = false
is_own (i ∷ is) p zero = same_path p (term_chain i.term)
is_own (i ∷ is) p (suc j) = is_own is p j

-- what goes on to the instance around: the values that were taken for items of other levels
abbrev pub passed_on : List RecordItem → List Step → List Made → List Made
passed_on items p [] = []
passed_on items p (built k o ∷ ms) = passed_on items p ms
passed_on items p (taken j v ∷ ms) = if is_own items p j then passed_on items p ms else taken j v ∷ passed_on items p ms

-- an instance of a level that leads to items is made into its object; in any other what was made stays
abbrev pub left_level : List ReadItem → ℕ → Context → List Made → Option Level → List Made
left_level rs k c inner None = inner
left_level rs k c inner (Some l) = if leads_to_items (items_of rs) l.path
    then built k (object_made rs (suc k) l c inner) ∷ passed_on (items_of rs) l.path inner
    else inner

-- a record is made into its object alone
abbrev pub left_items : List ReadItem → Levels → ℕ → Context → List Made → List Made
left_items rs levels zero c inner = built 0 (object_made rs 1 (record { path = []; below = levels }) c inner) ∷ []
left_items rs levels (suc k) c inner = left_level rs (suc k) c inner (level_from 1 levels (suc k))
