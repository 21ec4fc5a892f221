-- Partials: what a query gives on some of the records, held so that it can be merged with what it gives on others (Dremel 2010, section 6).
use Rattle.std.specs.Prelude.{◌≡◌, List, [], ◌∷◌, ◌++◌, map, length, Option, Some, None}
use Rattle.std.specs.List.{filter_map}
use Rattle.std.specs.Ordering.{match_ordering}
use Rattle.dr_meaning.specs.Schema.{Fields}
use Rattle.dr_meaning.specs.Path.{Step, longer}
use Rattle.dr_meaning.specs.Record.{Value, Node}
use Rattle.dr_meaning.specs.Expression.{evaluate, expression_chain, longest_chain}
use Rattle.dr_meaning.specs.Kept.{kept}
use Rattle.dr_meaning.specs.Query.{GroupTerm, key, count_rows, aggregate, GroupItem, Selection, objects, groups}
use Rattle.dr_meaning.specs.Query.{Query, Object, no_entries, cell, Levels, levels_of}
use Rattle.dr_meaning.specs.Query.{record_object, tuple_order, group_tuples, group_rows, nth_value}
use Rattle.dr_partials.specs.Accumulators.{Accumulator, counted, empty_accumulator, join, accumulated, result_of}

-- a group of an aggregate query: its key tuple, and what each aggregate among the items has gathered, in the order of the items
pub record Group : Type 0 where
  pub keys : List (Option Value)
  pub accumulators : List Accumulator

-- of a record query the result objects, in order; of an aggregate query the groups, each key tuple once, ascending
pub data Partial : Type 0 where
  lines : List Object → Partial
  grouped : List Group → Partial

-- ---- the partial of records

-- what an item gathers of the rows of a group; a key gathers nothing
abbrev pub term_accumulator : List (List Step) → List (Option Value) → List Node → GroupTerm → Option Accumulator
term_accumulator keys t ns (key i) = None
term_accumulator keys t ns count_rows = Some (counted (length (group_rows keys t (longest_chain keys) ns)))
term_accumulator keys t ns (aggregate a e) =
    Some (accumulated a (map (evaluate e) (group_rows keys t (longer (longest_chain keys) (expression_chain e)) ns)))

-- the group of a key tuple
abbrev pub group_of : List (List Step) → List GroupItem → List Node → List (Option Value) → Group
group_of keys items ns t = record { keys = t; accumulators = filter_map (λ (i : GroupItem). term_accumulator keys t ns i.term) items }

-- of the records that a condition leaves: their objects, or their groups
abbrev pub selected_partial : Selection → Levels → List Node → Partial
selected_partial (objects items) ls ns = lines (map (record_object items ls) ns)
selected_partial (groups keys items) ls ns = grouped (map (group_of keys items ns) (group_tuples keys ns))

-- a query's partial of records
unfoldable pub partial_of : Fields → Query → List Node → Partial
partial_of fs q ns = selected_partial q.selection (levels_of fs) (filter_map (kept q.condition) ns)

-- a partial stands for a query on records where it is the query's partial of them
unfoldable pub Stands : Fields → Query → List Node → Partial → Type 0
Stands fs q ns p = p ≡ partial_of fs q ns

-- ---- merging

-- the accumulators of two groups, one with one
abbrev pub join_all : List Accumulator → List Accumulator → List Accumulator
join_all [] ys = []
join_all (x ∷ xs) [] = []
join_all (x ∷ xs) (y ∷ ys) = join x y ∷ join_all xs ys

-- two groups of one key tuple
abbrev pub join_groups : Group → Group → Group
join_groups g h = record { keys = g.keys; accumulators = join_all g.accumulators h.accumulators }

-- a group among ascending ones: before the first of a greater key tuple, or joined with that of its own
abbrev pub insert_group : Group → List Group → List Group
insert_group g [] = g ∷ []
insert_group g (h ∷ hs) = match_ordering (tuple_order g.keys h.keys) (g ∷ h ∷ hs) (join_groups g h ∷ hs) (h ∷ insert_group g hs)

-- the groups of both, by key tuple
abbrev pub merge_groups : List Group → List Group → List Group
merge_groups [] hs = hs
merge_groups (g ∷ gs) hs = insert_group g (merge_groups gs hs)

-- two partials of one query: the lines of the first before those of the second, or the groups of both; of two kinds the first
unfoldable pub merge : Partial → Partial → Partial
merge (lines os) (lines ps) = lines (os ++ ps)
merge (grouped gs) (grouped hs) = grouped (merge_groups gs hs)
merge p q = p

-- ---- nothing yet

-- what an item has gathered of no rows
abbrev pub empty_term : GroupTerm → Option Accumulator
empty_term (key i) = None
empty_term count_rows = Some (counted 0)
empty_term (aggregate a e) = Some (empty_accumulator a)

-- without GROUP BY there is one group, also of no records
abbrev pub empty_groups : List (List Step) → List GroupItem → List Group
empty_groups [] items = record { keys = []; accumulators = filter_map (λ (i : GroupItem). empty_term i.term) items } ∷ []
empty_groups (k ∷ ks) items = []

abbrev pub empty_selected : Selection → Partial
empty_selected (objects items) = lines []
empty_selected (groups keys items) = grouped (empty_groups keys items)

-- a query's partial before any record
unfoldable pub empty_partial : Query → Partial
empty_partial q = empty_selected q.selection

-- ---- the result

-- the value of an item, where these are the accumulators of it and of the items behind it
abbrev pub item_value : GroupTerm → List (Option Value) → List Accumulator → Option Value
item_value (key i) t xs = nth_value t i
item_value term t [] = None
item_value term t (x ∷ xs) = result_of x

-- the accumulators of the items behind an item
abbrev pub behind_item : GroupTerm → List Accumulator → List Accumulator
behind_item (key i) xs = xs
behind_item term [] = []
behind_item term (x ∷ xs) = xs

-- a group's row: the items' names and values, in the order of the items
abbrev pub group_row : List GroupItem → List (Option Value) → List Accumulator → Object
group_row [] t xs = no_entries
group_row (i ∷ is) t xs = cell i.name (item_value i.term t xs) (group_row is t (behind_item i.term xs))

abbrev pub finished_selection : Selection → Partial → List Object
finished_selection s (lines os) = os
finished_selection (objects items) (grouped gs) = []
finished_selection (groups keys items) (grouped gs) = map (λ (g : Group). group_row items g.keys g.accumulators) gs

-- the result of a query of which this is the partial of all records
unfoldable pub finished : Query → Partial → List Object
finished q p = finished_selection q.selection p
