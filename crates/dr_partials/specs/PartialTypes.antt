-- Which partials are partials of a query: the forms of lines, the types of keys and of accumulators.
use Rattle.std.specs.Prelude.{ℕ, List, [], ◌∷◌, map, Bool, true, false, ◌&&◌, if◌then◌else◌, Option, Some, None, bytes_eq}
use Rattle.std.specs.List.{list_all, join_with_byte}
use Rattle.std.specs.Ordering.{is_lt}
use Rattle.dr_meaning.specs.Schema.{Fields}
use Rattle.dr_meaning.specs.Path.{Step, Leaf, same_path, leaves}
use Rattle.dr_meaning.specs.Record.{Value, bool_value, int_value, text_value}
use Rattle.dr_meaning.specs.Expression.{plus, Expression, constant, path_value, negative, arithmetic, comparison, like, contains, is_null}
use Rattle.dr_meaning.specs.Expression.{negation, conjunction, disjunction}
use Rattle.dr_meaning.specs.Query.{count, sum, least, greatest, GroupTerm, key, count_rows, aggregate, RecordItem, GroupItem, Selection, objects, groups}
use Rattle.dr_meaning.specs.Query.{Query, Object, no_entries, cell, list, Objects, no_objects, object, Levels, no_levels, deeper, levels_of, term_chain}
use Rattle.dr_meaning.specs.Query.{leads_to_items, tuple_order}
use Rattle.dr_meaning.specs.BoundExpression.{ValueType, truth_type, number_type, text_type, kind_type}
use Rattle.dr_meaning.specs.BindingLaws.{is_of_type}
use Rattle.dr_partials.specs.Accumulators.{Accumulator, counted, summed, least_of, greatest_of}
use Rattle.dr_partials.specs.Partials.{Group, Partial, lines, grouped}

-- ---- types

abbrev pub value_type : Value → ValueType
value_type (bool_value b) = truth_type
value_type (int_value z) = number_type
value_type (text_value t) = text_type

-- the type of the leaf of this path, among these
abbrev pub type_among : List Step → List Leaf → Option ValueType
type_among p [] = None
type_among p (l ∷ ls) = if same_path p l.path then Some (kind_type l.kind) else type_among p ls

abbrev pub path_type : Fields → List Step → Option ValueType
path_type fs p = type_among p (leaves fs)

-- the type of an expression of a query over a schema; `+` has that of its operands, which are numbers or texts
abbrev pub expression_type : Fields → Expression → Option ValueType
expression_type fs (constant v) = Some (value_type v)
expression_type fs (path_value p) = path_type fs p
expression_type fs (negative e) = Some number_type
expression_type fs (arithmetic plus a b) = expression_type fs a
expression_type fs (arithmetic o a b) = Some number_type
expression_type fs (comparison c a b) = Some truth_type
expression_type fs (like e t) = Some truth_type
expression_type fs (contains e t) = Some truth_type
expression_type fs (is_null e) = Some truth_type
expression_type fs (negation e) = Some truth_type
expression_type fs (conjunction a b) = Some truth_type
expression_type fs (disjunction a b) = Some truth_type

-- a value of this type, or NULL
abbrev pub has_type : Option ValueType → Option Value → Bool
has_type t None = true
has_type None (Some v) = false
has_type (Some t) (Some v) = is_of_type t (Some v)

-- ---- groups

-- for each key a value of its type, or NULL
abbrev pub are_keys : Fields → List (List Step) → List (Option Value) → Bool
are_keys fs [] [] = true
are_keys fs (k ∷ ks) (v ∷ vs) = has_type (path_type fs k) v && are_keys fs ks vs
are_keys fs ks vs = false

-- an accumulator of the term's aggregate; the least and the greatest value are of the argument's type
abbrev pub is_accumulator : Fields → GroupTerm → Accumulator → Bool
is_accumulator fs count_rows (counted n) = true
is_accumulator fs (aggregate count e) (counted n) = true
is_accumulator fs (aggregate sum e) (summed s) = true
is_accumulator fs (aggregate least e) (least_of v) = has_type (expression_type fs e) v
is_accumulator fs (aggregate greatest e) (greatest_of v) = has_type (expression_type fs e) v
is_accumulator fs term x = false

-- the aggregates among the items, in order
abbrev pub with_aggregate : GroupTerm → List GroupTerm → List GroupTerm
with_aggregate (key i) terms = terms
with_aggregate term terms = term ∷ terms

abbrev pub aggregates_among : List GroupItem → List GroupTerm
aggregates_among [] = []
aggregates_among (i ∷ is) = with_aggregate i.term (aggregates_among is)

-- for each aggregate its accumulator
abbrev pub are_accumulators : Fields → List GroupTerm → List Accumulator → Bool
are_accumulators fs [] [] = true
are_accumulators fs (t ∷ ts) (x ∷ xs) = is_accumulator fs t x && are_accumulators fs ts xs
are_accumulators fs ts xs = false

abbrev pub is_group : Fields → List (List Step) → List GroupItem → Group → Bool
is_group fs keys items g = are_keys fs keys g.keys && are_accumulators fs (aggregates_among items) g.accumulators

-- key tuples each of which is less than the next
abbrev pub ascends : List (List (Option Value)) → Bool
ascends [] = true
ascends (t ∷ []) = true
ascends (t ∷ u ∷ ts) = is_lt (tuple_order t u) && ascends (u ∷ ts)

-- without GROUP BY exactly one
abbrev pub is_one_without_keys : List (List Step) → List Group → Bool
is_one_without_keys [] (g ∷ []) = true
is_one_without_keys [] gs = false
is_one_without_keys (k ∷ ks) gs = true

-- ---- lines

-- the shape of an object: its cells and lists in order, each by its name, and of a list the shape of each of its objects
pub data ObjectShape : Type 0 where
  nothing_more : ObjectShape
  cell_named : List ℕ → ObjectShape → ObjectShape
  list_named : List ℕ → ObjectShape → ObjectShape → ObjectShape

-- a cell for each item of a level, in SELECT order, before the rest of the shape
abbrev pub shape_with_cells : List RecordItem → List Step → ObjectShape → ObjectShape
shape_with_cells [] p rest = rest
shape_with_cells (i ∷ is) p rest = if same_path p (term_chain i.term) then cell_named i.name (shape_with_cells is p rest)
    else shape_with_cells is p rest

-- a list for each next level that leads to items, with objects of that level
abbrev pub shape_of_lists : List RecordItem → Levels → ObjectShape
shape_of_lists items no_levels = nothing_more
shape_of_lists items (deeper names p below beside) = if leads_to_items items p
    then list_named (join_with_byte 46 names) (shape_with_cells items p (shape_of_lists items below)) (shape_of_lists items beside)
    else shape_of_lists items beside

-- the shape of a record's object
abbrev pub shape_of : List RecordItem → Levels → ObjectShape
shape_of items levels = shape_with_cells items [] (shape_of_lists items levels)

abbrev mutual
  -- whether an object has the cells and the lists of a shape, and nothing more
  pub object_has_shape : ObjectShape → Object → Bool
  object_has_shape nothing_more no_entries = true
  object_has_shape (cell_named name rest) (cell n v o) = bytes_eq name n && object_has_shape rest o
  object_has_shape (list_named name each rest) (list n os o) = bytes_eq name n && objects_have_shape each os && object_has_shape rest o
  object_has_shape s o = false

  pub objects_have_shape : ObjectShape → Objects → Bool
  objects_have_shape s no_objects = true
  objects_have_shape s (object o os) = object_has_shape s o && objects_have_shape s os

-- ---- partials

abbrev pub is_of_selection : Fields → Selection → Partial → Bool
is_of_selection fs (objects items) (lines os) = list_all (object_has_shape (shape_of items (levels_of fs))) os
is_of_selection fs (groups keys items) (grouped gs) = list_all (is_group fs keys items) gs && ascends (map (λ (g : Group). g.keys) gs)
    && is_one_without_keys keys gs
is_of_selection fs s p = false

-- whether a partial is a partial of this query
unfoldable pub is_partial : Fields → Query → Partial → Bool
is_partial fs q p = is_of_selection fs q.selection p
