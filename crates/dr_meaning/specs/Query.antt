-- Queries and their meaning on records: record queries with WITHIN, and aggregate queries with GROUP BY (Dremel 2010, section 5).
use Rattle.std.specs.Prelude.{ℕ, zero, suc, List, [], ◌∷◌, ◌++◌, map, length, Bool, true, false, if◌then◌else◌, ℤ, pos, ◌+ℤ◌, Option, Some, None, filter}
use Rattle.std.specs.List.{filter_map, flat_map, list_any, join_with_byte}
use Rattle.std.specs.Ordering.{nat_cmp, int_cmp, bool_cmp, is_lt, is_eq, match_ordering}
use Rattle.std.specs.declared.cmp.Ordering.{Ordering}
use Rattle.std.specs.declared.cmp.Ordering.TheVariants.{Less, Equal, Greater}
use Rattle.std.specs.Cmp.Lexicographic.{slice_cmp}
use Rattle.dr_meaning.specs.Schema.{Repetition, required, optional, repeated, Fields, no_fields, field, Shape, leaf, group}
use Rattle.dr_meaning.specs.Path.{Step, begins_with, same_path, chain_end, longer}
use Rattle.dr_meaning.specs.Record.{Value, bool_value, int_value, text_value, Node}
use Rattle.dr_meaning.specs.Rows.{rows, value_at, is_present}
use Rattle.dr_meaning.specs.Expression.{Expression, evaluate, expression_chain, longest_chain}
use Rattle.dr_meaning.specs.Kept.{kept}

-- ---- queries

pub data Aggregate : Type 0 where
  count : Aggregate
  sum : Aggregate
  least : Aggregate
  greatest : Aggregate

-- an item of a record query: an expression, or an aggregate of one within each instance of a node
pub data RecordTerm : Type 0 where
  expression : Expression → RecordTerm
  within : Aggregate → Expression → List Step → RecordTerm

-- an item of an aggregate query: the key at this place, COUNT(*), or an aggregate of an expression
pub data GroupTerm : Type 0 where
  key : ℕ → GroupTerm
  count_rows : GroupTerm
  aggregate : Aggregate → Expression → GroupTerm

pub record RecordItem : Type 0 where
  pub name : List ℕ
  pub term : RecordTerm

pub record GroupItem : Type 0 where
  pub name : List ℕ
  pub term : GroupTerm

-- what is selected: objects of each record, or rows of groups by keys; without GROUP BY there are no keys
pub data Selection : Type 0 where
  objects : List RecordItem → Selection
  groups : List (List Step) → List GroupItem → Selection

pub record Query : Type 0 where
  pub condition : Option Expression
  pub selection : Selection

-- ---- results

mutual
  -- a result object: named values (NULL is none) and named lists of objects, in order
  pub data Object : Type 0 where
    no_entries : Object
    cell : List ℕ → Option Value → Object → Object
    list : List ℕ → Objects → Object → Object

  pub data Objects : Type 0 where
    no_objects : Objects
    object : Object → Objects → Objects

abbrev pub objects_of : List Object → Objects
objects_of [] = no_objects
objects_of (o ∷ os) = object o (objects_of os)

-- ---- aggregates

abbrev pub present_values : List (Option Value) → List Value
present_values vs = filter_map (λ v. v) vs

abbrev pub integer_sum : List Value → ℤ
integer_sum [] = pos 0
integer_sum (bool_value b ∷ vs) = integer_sum vs
integer_sum (int_value z ∷ vs) = z +ℤ integer_sum vs
integer_sum (text_value t ∷ vs) = integer_sum vs

-- the order of values: truth values, numbers, texts; false before true, numbers by value, texts by their bytes
abbrev pub value_order : Value → Value → Ordering
value_order (bool_value a) (bool_value b) = bool_cmp a b
value_order (bool_value a) (int_value b) = Less
value_order (bool_value a) (text_value b) = Less
value_order (int_value a) (bool_value b) = Greater
value_order (int_value a) (int_value b) = int_cmp a b
value_order (int_value a) (text_value b) = Less
value_order (text_value a) (bool_value b) = Greater
value_order (text_value a) (int_value b) = Greater
value_order (text_value a) (text_value b) = slice_cmp nat_cmp a b

-- NULL before all others
abbrev pub cell_order : Option Value → Option Value → Ordering
cell_order None None = Equal
cell_order None (Some b) = Less
cell_order (Some a) None = Greater
cell_order (Some a) (Some b) = value_order a b

abbrev pub smaller : Value → Value → Value
smaller a b = if is_lt (value_order b a) then b else a

abbrev pub larger : Value → Value → Value
larger a b = if is_lt (value_order a b) then b else a

-- a value beside the best of the others
abbrev pub best_with : (Value → Value → Value) → Value → Option Value → Option Value
best_with better v None = Some v
best_with better v (Some w) = Some (better v w)

-- the best of some values by a choice of the better of two; none of none
abbrev pub best_by : (Value → Value → Value) → List Value → Option Value
best_by better [] = None
best_by better (v ∷ []) = Some v
best_by better (v ∷ w ∷ vs) = best_with better v (best_by better (w ∷ vs))

abbrev pub sum_of_some : List Value → Option Value
sum_of_some [] = None
sum_of_some (v ∷ vs) = Some (int_value (integer_sum (v ∷ vs)))

abbrev pub count_value : ℕ → Option Value
count_value n = Some (int_value (pos n))

-- COUNT counts values other than NULL; SUM is exact; MIN and MAX go by the order; the last three of nothing are NULL
abbrev pub aggregated : Aggregate → List Value → Option Value
aggregated count vs = count_value (length vs)
aggregated sum vs = sum_of_some vs
aggregated least vs = best_by smaller vs
aggregated greatest vs = best_by larger vs

-- the aggregate of an expression over rows
abbrev pub over_rows : Aggregate → Expression → List Node → Option Value
over_rows a e rs = aggregated a (present_values (map (evaluate e) rs))

-- ---- record queries

-- the repeated fields of a schema as levels: each with its name from the level above, its path, the levels below it, and the levels beside it
pub data Levels : Type 0 where
  no_levels : Levels
  deeper : List (List ℕ) → List Step → Levels → Levels → Levels

abbrev pub append_levels : Levels → Levels → Levels
append_levels no_levels ls = ls
append_levels (deeper n p below ks) ls = deeper n p below (append_levels ks ls)

-- a repeated field is a level of its own; any other passes on the levels below it
abbrev pub as_level : Repetition → List (List ℕ) → List Step → Levels → Levels → Levels
as_level required n p own passed = passed
as_level optional n p own passed = passed
as_level repeated n p own passed = deeper n p own no_levels

abbrev mutual
  -- the next levels in a group below the path p, whose first field has the place i, with the names since the level above
  pub levels_in : Fields → ℕ → List (List ℕ) → List Step → Levels
  levels_in no_fields i ns p = no_levels
  levels_in (field n r s fs) i ns p = append_levels
      (as_level r (ns ++ n ∷ []) (p ++ record { place = i; repetition = r } ∷ [])
      (shape_levels s [] (p ++ record { place = i; repetition = r } ∷ []))
      (shape_levels s (ns ++ n ∷ []) (p ++ record { place = i; repetition = r } ∷ [])))
      (levels_in fs (suc i) ns p)

  pub shape_levels : Shape → List (List ℕ) → List Step → Levels
  shape_levels (leaf k) ns p = no_levels
  shape_levels (group fs) ns p = levels_in fs 0 ns p

abbrev pub levels_of : Fields → Levels
levels_of fs = levels_in fs 0 [] []

-- the chain to whose end's instances an item belongs: its longest, or that of its WITHIN node
abbrev pub term_chain : RecordTerm → List Step
term_chain (expression e) = expression_chain e
term_chain (within a e node) = chain_end node

-- an aggregate within a node goes over the rows of its argument below that instance
abbrev pub term_value : RecordTerm → Node → Option Value
term_value (expression e) row = evaluate e row
term_value (within a e node) row = over_rows a e (rows (expression_chain e) row)

-- the items of a level, in SELECT order, before the rest of the object
abbrev pub with_cells : List RecordItem → List Step → Node → Object → Object
with_cells [] p row rest = rest
with_cells (i ∷ is) p row rest = if same_path p (term_chain i.term) then cell i.name (term_value i.term row) (with_cells is p row rest)
    else with_cells is p row rest

-- whether the level at a path leads to items
abbrev pub leads_to_items : List RecordItem → List Step → Bool
leads_to_items items p = list_any (λ (i : RecordItem). begins_with p (term_chain i.term)) items

-- the list of a level, where it leads to items, before the rest of the object
abbrev pub with_list : Bool → List (List ℕ) → Objects → Object → Object
with_list false names os rest = rest
with_list true names os rest = list (join_with_byte 46 names) os rest

-- the rows of a path within a row, without those in which its end is absent: one for each instance
abbrev pub instances_of : List Step → Node → List Node
instances_of p row = filter (is_present p) (rows p row)

-- for each next level that leads to items one list, of the object of each instance
abbrev pub object_lists : List RecordItem → Levels → Node → Object
object_lists items no_levels row = no_entries
object_lists items (deeper names p below beside) row = with_list (leads_to_items items p) names
    (objects_of (map (λ instance_row. with_cells items p instance_row (object_lists items below instance_row)) (instances_of p row)))
    (object_lists items beside row)

-- the object of a record
abbrev pub record_object : List RecordItem → Levels → Node → Object
record_object items levels n = with_cells items [] n (object_lists items levels n)

-- ---- aggregate queries

abbrev pub key_tuple : List (List Step) → Node → List (Option Value)
key_tuple keys row = map (λ p. value_at p row) keys

abbrev pub tuple_order : List (Option Value) → List (Option Value) → Ordering
tuple_order = slice_cmp cell_order

-- a tuple among ascending ones, each once
abbrev pub insert_tuple : List (Option Value) → List (List (Option Value)) → List (List (Option Value))
insert_tuple t [] = t ∷ []
insert_tuple t (u ∷ us) = match_ordering (tuple_order t u) (t ∷ u ∷ us) (u ∷ us) (u ∷ insert_tuple t us)

abbrev pub distinct_tuples : List (List (Option Value)) → List (List (Option Value))
distinct_tuples [] = []
distinct_tuples (t ∷ ts) = insert_tuple t (distinct_tuples ts)

-- the key tuples of the groups, ascending; without GROUP BY the one empty tuple
abbrev pub group_tuples : List (List Step) → List Node → List (List (Option Value))
group_tuples [] ns = [] ∷ []
group_tuples (k ∷ ks) ns = distinct_tuples (map (key_tuple (k ∷ ks)) (flat_map (rows (longest_chain (k ∷ ks))) ns))

-- the rows of a chain whose key tuple is the group's
abbrev pub group_rows : List (List Step) → List (Option Value) → List Step → List Node → List Node
group_rows keys t p ns = filter (λ row. is_eq (tuple_order (key_tuple keys row) t)) (flat_map (rows p) ns)

abbrev pub nth_value : List (Option Value) → ℕ → Option Value
nth_value [] i = None
nth_value (v ∷ vs) zero = v
nth_value (v ∷ vs) (suc i) = nth_value vs i

-- an aggregate goes over the rows of the longer of the keys' chain and its argument's; COUNT(*) counts the rows of the keys' chain
abbrev pub group_value : List (List Step) → List (Option Value) → List Node → GroupTerm → Option Value
group_value keys t ns (key i) = nth_value t i
group_value keys t ns count_rows = count_value (length (group_rows keys t (longest_chain keys) ns))
group_value keys t ns (aggregate a e) = over_rows a e (group_rows keys t (longer (longest_chain keys) (expression_chain e)) ns)

abbrev pub group_cells : List (List Step) → List (Option Value) → List Node → List GroupItem → Object
group_cells keys t ns [] = no_entries
group_cells keys t ns (i ∷ is) = cell i.name (group_value keys t ns i.term) (group_cells keys t ns is)

abbrev pub group_objects : List (List Step) → List GroupItem → List Node → List Object
group_objects keys items ns = map (λ t. group_cells keys t ns items) (group_tuples keys ns)

-- ---- the meaning of a query on records: the result's objects, in order

abbrev pub selected : Selection → Levels → List Node → List Object
selected (objects items) ls ns = map (record_object items ls) ns
selected (groups keys items) ls ns = group_objects keys items ns

unfoldable pub meaning : Fields → Query → List Node → List Object
meaning fs q ns = selected q.selection (levels_of fs) (filter_map (kept q.condition) ns)
