-- What a record query gives, as records: each object of its result is a record of a schema that the query's names and
-- types make.
use Rattle.std.specs.Prelude.{ℕ, List, [], ◌∷◌, map, Bool, true, false, ◌==◌, if◌then◌else◌, Option, Some, None, codes}
use Rattle.std.specs.List.{join_with_byte}
use Rattle.dr_meaning.specs.Schema.{optional, repeated, Kind, bool_kind, int64_kind, text_kind, Fields, no_fields, field, leaf, group}
use Rattle.dr_meaning.specs.Path.{Step, same_path}
use Rattle.dr_meaning.specs.Record.{Value, bool_value, int_value, text_value, Node, no_slots, slot, Instances, no_instances, instance, inner, atom, single, in_int64}
use Rattle.dr_meaning.specs.Query.{Aggregate, count, sum, least, greatest, RecordTerm, expression, within, RecordItem, Selection, objects, groups, Query}
use Rattle.dr_meaning.specs.Query.{Object, no_entries, cell, list, Objects, no_objects, object, Levels, no_levels, deeper, levels_of, term_chain, leads_to_items}
use Rattle.dr_meaning.specs.BoundExpression.{ValueType, truth_type, number_type, text_type}
use Rattle.dr_partials.specs.PartialTypes.{expression_type}

-- ---- names and kinds

-- a dot of a name becomes `_`
abbrev pub without_dot : ℕ → ℕ
without_dot b = if b == 46 then 95 else b

abbrev pub field_name : List ℕ → List ℕ
field_name n = map without_dot n

-- the name of the list of a level: its names from the level above, joined
abbrev pub list_field_name : List (List ℕ) → List ℕ
list_field_name names = field_name (join_with_byte 46 names)

abbrev pub kind_of_type : Option ValueType → Kind
kind_of_type (Some truth_type) = bool_kind
kind_of_type (Some number_type) = int64_kind
kind_of_type (Some text_type) = text_kind
kind_of_type None = int64_kind

-- COUNT and SUM give numbers, MIN and MAX what they are given
abbrev pub aggregate_type : Aggregate → Option ValueType → Option ValueType
aggregate_type count t = Some number_type
aggregate_type sum t = Some number_type
aggregate_type least t = t
aggregate_type greatest t = t

abbrev pub term_type : Fields → RecordTerm → Option ValueType
term_type fs (expression e) = expression_type fs e
term_type fs (within a e node) = aggregate_type a (expression_type fs e)

-- ---- the schema of a result: of each object its items, in SELECT order, as optional leaves, then its lists as repeated groups

-- the items of a level, before the other fields
abbrev pub item_fields : Fields → List RecordItem → List Step → Fields → Fields
item_fields fs [] p rest = rest
item_fields fs (i ∷ is) p rest =
    if same_path p (term_chain i.term) then field (field_name i.name) optional (leaf (kind_of_type (term_type fs i.term))) (item_fields fs is p rest)
    else item_fields fs is p rest

abbrev pub with_list_field : Bool → List (List ℕ) → Fields → Fields → Fields
with_list_field false names inside rest = rest
with_list_field true names inside rest = field (list_field_name names) repeated (group inside) rest

-- a group for each next level that leads to items
abbrev pub list_fields : Fields → List RecordItem → Levels → Fields
list_fields fs items no_levels = no_fields
list_fields fs items (deeper names p below beside) =
    with_list_field (leads_to_items items p) names (item_fields fs items p (list_fields fs items below)) (list_fields fs items beside)

abbrev pub fields_of_selection : Fields → Selection → Fields
fields_of_selection fs (objects items) = item_fields fs items [] (list_fields fs items (levels_of fs))
fields_of_selection fs (groups keys items) = no_fields

-- the fields of the records that a record query gives; of an aggregate query there are none
unfoldable pub result_fields : Fields → Query → Fields
result_fields fs q = fields_of_selection fs q.selection

abbrev pub result_message : List ℕ
result_message = codes "Result"

-- ---- the record of an object

-- a value of a result that a leaf holds: a sum may need more than 64 bits, and is absent then
abbrev pub value_instances : Value → Instances
value_instances (bool_value b) = single (atom (bool_value b))
value_instances (int_value z) = if in_int64 z then single (atom (int_value z)) else no_instances
value_instances (text_value t) = single (atom (text_value t))

-- NULL is absent
abbrev pub cell_instances : Option Value → Instances
cell_instances None = no_instances
cell_instances (Some v) = value_instances v

abbrev mutual
  -- each value is a leaf's, each list has its objects as instances, in order
  pub record_of : Object → Node
  record_of no_entries = no_slots
  record_of (cell n v o) = slot (cell_instances v) (record_of o)
  record_of (list n os o) = slot (list_instances os) (record_of o)

  pub list_instances : Objects → Instances
  list_instances no_objects = no_instances
  list_instances (object o os) = instance (inner (record_of o)) (list_instances os)

-- the records that a result's objects are
abbrev pub records_of : List Object → List Node
records_of os = map record_of os
