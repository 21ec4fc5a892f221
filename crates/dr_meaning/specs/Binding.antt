-- Binding a query: from a schema and a syntax tree to the query that has a meaning, or the first fault.
use Rattle.std.specs.Prelude.{ℕ, suc, List, [], ◌∷◌, ◌++◌, map, Bool, true, false, ◌&&◌, ◌||◌, ◌==◌, nat_lt, if◌then◌else◌, bytes_eq, codes}
use Rattle.std.specs.Prelude.{Option, Some, None, option_map, is_some, Result, Ok, Err, decimal}
use Rattle.std.specs.List.{list_any, list_all, filter_map, flat_map, join_with_byte}
use Rattle.dr_meaning.specs.Schema.{Schema, Fields, Shape, leaf, group}
use Rattle.dr_meaning.specs.Path.{Step, Found, find_path, chain_end, begins_with, same_path, max_repetition}
use Rattle.dr_meaning.specs.Expression.{Expression, path_value, paths_of, expression_chain}
use Rattle.dr_meaning.specs.Query.{Aggregate, sum, RecordTerm, expression, within, GroupTerm, key, count_rows, aggregate, RecordItem, GroupItem}
use Rattle.dr_meaning.specs.Query.{Selection, objects, groups, Query, Levels, no_levels, deeper, append_levels, levels_of}
use Rattle.dr_meaning.specs.Syntax.{NameSyntax, PathSyntax, ExpressionSyntax, path, NodeSyntax, whole_record, node, WithinSyntax, TermSyntax, ConditionSyntax}
use Rattle.dr_meaning.specs.Syntax.{expression as expression_syntax, count_rows as count_rows_syntax, aggregate as aggregate_syntax, ItemSyntax}
use Rattle.dr_meaning.specs.Syntax.{QuerySyntax}
use Rattle.dr_meaning.specs.BoundExpression.{BindProblem, unknown_table, unknown_field, not_a_leaf, type_mismatch, unrelated, bad_within, not_grouped}
use Rattle.dr_meaning.specs.BoundExpression.{duplicate_name, BindFault, fault_at, Checked, passes, fails, fails_at, checked_map, then_check, together, truth_type}
use Rattle.dr_meaning.specs.BoundExpression.{number_type, BoundPath, BoundExpression, bind_path, bind_expression, of_type, unrelated_among}

-- ---- the condition

-- the condition, whose value is to be a truth value: told at its first token where it isn't
abbrev pub bind_condition : Fields → Option ConditionSyntax → Checked (Option BoundExpression)
bind_condition fs None = passes None
bind_condition fs (Some c) = checked_map (λ e. Some e) (then_check (of_type truth_type c.place) (bind_expression fs c.expression))

-- ---- items

-- an aggregate's WITHIN: the place of the word, the path of its node, and whether that is the record or a repeated group
pub record BoundWithin : Type 0 where
  pub place : ℕ
  pub node : List Step
  pub is_whole : Bool

abbrev pub is_group_shape : Shape → Bool
is_group_shape (leaf k) = false
is_group_shape (group fs) = true

-- a group whose path ends in a repeated field
abbrev pub is_repeated_group : Found → Bool
is_repeated_group f = is_group_shape f.shape && same_path (chain_end f.path) f.path

-- the node of a WITHIN at place i, by a path at place j
abbrev pub found_node : ℕ → ℕ → Option Found → Checked (Option BoundWithin)
found_node i j None = fails_at j unknown_field
found_node i j (Some f) = passes (Some (record { place = i; node = f.path; is_whole = is_repeated_group f }))

abbrev pub bind_node : Fields → ℕ → NodeSyntax → Checked (Option BoundWithin)
bind_node fs i whole_record = passes (Some (record { place = i; node = []; is_whole = true }))
bind_node fs i (node p) = found_node i p.place (find_path p.names fs)

abbrev pub bind_within : Fields → Option WithinSyntax → Checked (Option BoundWithin)
bind_within fs None = passes None
bind_within fs (Some w) = bind_node fs w.place w.node

-- what an item gives: an expression; COUNT(*); an aggregate of an expression
pub data BoundTerm : Type 0 where
  plain : BoundExpression → BoundTerm
  rows_counted : Option BoundWithin → BoundTerm
  aggregated : Aggregate → BoundExpression → Option BoundWithin → BoundTerm

-- SUM, at this place, takes numbers; the others take any values
abbrev pub argument_of : Aggregate → ℕ → BoundExpression → Checked BoundExpression
argument_of sum i e = of_type number_type i e
argument_of a i e = passes e

abbrev pub bind_argument : Fields → ℕ → Aggregate → ExpressionSyntax → Checked BoundExpression
bind_argument fs i a e = then_check (argument_of a i) (bind_expression fs e)

-- the term of an item at this place
abbrev pub bind_term : Fields → ℕ → TermSyntax → Checked BoundTerm
bind_term fs i (expression_syntax e) = checked_map plain (bind_expression fs e)
bind_term fs i (count_rows_syntax w) = checked_map rows_counted (bind_within fs w)
bind_term fs i (aggregate_syntax a e w) = together (aggregated a) (bind_argument fs i a e) (bind_within fs w)

-- an argument that passes, beside a WITHIN that doesn't
abbrev pub alone : Checked BoundExpression → Checked (Option BoundWithin) → List BoundExpression
alone (passes e) (passes w) = []
alone (passes e) (fails f fs) = e ∷ []
alone (fails f fs) w = []

-- the argument of an aggregate that fails by its WITHIN alone: its paths are compared all the same
abbrev pub argument_alone : Fields → ℕ → TermSyntax → List BoundExpression
argument_alone fs i (expression_syntax e) = []
argument_alone fs i (count_rows_syntax w) = []
argument_alone fs i (aggregate_syntax a e w) = alone (bind_argument fs i a e) (bind_within fs w)

abbrev pub arguments_alone : Fields → List ItemSyntax → List BoundExpression
arguments_alone fs is = flat_map (λ (i : ItemSyntax). argument_alone fs i.place i.term) is

-- the name of the nth item where AS gives none: a path's names, joined by dots; else f<n>_
abbrev pub own_name : ℕ → TermSyntax → List ℕ
own_name n (expression_syntax (path p)) = join_with_byte 46 p.names
own_name n t = codes "f" ++ decimal n ++ codes "_"

-- the name that AS gives, or the item's own
abbrev pub item_name : ℕ → TermSyntax → Option (List ℕ) → List ℕ
item_name n t None = own_name n t
item_name n t (Some name) = name

-- an item: the place of its first token, its name and its term
pub record BoundItem : Type 0 where
  pub place : ℕ
  pub name : List ℕ
  pub term : BoundTerm

abbrev pub bind_item : Fields → ℕ → ItemSyntax → Checked BoundItem
bind_item fs n i = checked_map (λ t. record { place = i.place; name = item_name n i.term i.name; term = t }) (bind_term fs i.place i.term)

-- items of which the first is the nth
abbrev pub bind_items : Fields → ℕ → List ItemSyntax → List (Checked BoundItem)
bind_items fs n [] = []
bind_items fs n (i ∷ is) = bind_item fs n i ∷ bind_items fs (suc n) is

-- ---- the parts of a query

-- each part by itself, and whether this is a record query: no GROUP BY, and each aggregate with WITHIN
pub record BoundParts : Type 0 where
  pub is_record_query : Bool
  pub condition : Checked (Option BoundExpression)
  pub items : List (Checked BoundItem)
  pub arguments : List BoundExpression
  pub keys : List (Checked BoundPath)

-- whether a term may stand in a record query: it is no aggregate, or has WITHIN
abbrev pub is_of_record : TermSyntax → Bool
is_of_record (expression_syntax e) = true
is_of_record (count_rows_syntax w) = is_some w
is_of_record (aggregate_syntax a e w) = is_some w

abbrev pub has_keys : List PathSyntax → Bool
has_keys [] = false
has_keys (k ∷ ks) = true

abbrev pub is_record_syntax : QuerySyntax → Bool
is_record_syntax q = if has_keys q.keys then false else list_all (λ (i : ItemSyntax). is_of_record i.term) q.items

abbrev pub bind_parts : Fields → QuerySyntax → BoundParts
bind_parts fs q = record {
  is_record_query = is_record_syntax q;
  condition = bind_condition fs q.condition;
  items = bind_items fs 0 q.items;
  arguments = arguments_alone fs q.items;
  keys = map (bind_path fs) q.keys;
}

-- the faults of a part
abbrev pub faults_in : {A : Type 0} → Checked A → List BindFault
faults_in (passes a) = []
faults_in (fails e es) = e ∷ es

abbrev pub if_passed : {A : Type 0} → Checked A → Option A
if_passed (passes a) = Some a
if_passed (fails e es) = None

-- those that pass
abbrev pub passing : {A : Type 0} → List (Checked A) → List A
passing cs = filter_map if_passed cs

-- the faults of a rule that is tested only where a part passes
abbrev pub where_passed : {A : Type 0} → (A → List BindFault) → Checked A → List BindFault
where_passed rule (passes a) = rule a
where_passed rule (fails e es) = []

-- all of them, where each passes
abbrev pub all_passed : {A : Type 0} → List (Checked A) → Checked (List A)
all_passed [] = passes []
all_passed (c ∷ cs) = together (λ a rest. a ∷ rest) c (all_passed cs)

-- ---- the rules above paths and operators

abbrev pub paths_of_condition : Option BoundExpression → List BoundPath
paths_of_condition None = []
paths_of_condition (Some e) = e.paths

-- among the keys followed by the paths of an aggregate's argument
abbrev pub unrelated_behind : Checked (List BoundPath) → BoundExpression → List BindFault
unrelated_behind keys e = where_passed (λ ks. unrelated_among (ks ++ e.paths)) keys

-- among the paths of an expression; among those of an aggregate's argument, behind the keys
abbrev pub unrelated_in_term : Checked (List BoundPath) → BoundTerm → List BindFault
unrelated_in_term keys (plain e) = unrelated_among e.paths
unrelated_in_term keys (rows_counted w) = []
unrelated_in_term keys (aggregated a e w) = unrelated_behind keys e

-- whether a node holds the rows of an expression: it is whole, and the longest chain of the expression begins with it. The expression's paths
-- are related: one that isn't has a fault before WITHIN
abbrev pub holds_rows : Expression → BoundWithin → Bool
holds_rows e w = w.is_whole && begins_with w.node (expression_chain e)

-- an aggregate WITHIN a node that doesn't hold its rows, and COUNT(*) WITHIN any
abbrev pub within_faults : BoundTerm → List BindFault
within_faults (plain e) = []
within_faults (rows_counted None) = []
within_faults (rows_counted (Some w)) = fault_at w.place bad_within
within_faults (aggregated a e None) = []
within_faults (aggregated a e (Some w)) = if holds_rows e.expression w then [] else fault_at w.place bad_within

-- the place of a path among the keys, the first where it stands there more than once
abbrev pub place_among : List BoundPath → List Step → Option ℕ
place_among [] p = None
place_among (k ∷ ks) p = if same_path k.leaf.path p then Some 0 else option_map (λ i. suc i) (place_among ks p)

-- the key that an expression is: it has to be a path
abbrev pub key_of : List BoundPath → Expression → Option ℕ
key_of keys (path_value p) = place_among keys p
key_of keys e = None

-- the term of an aggregate query: a key, or an aggregate without WITHIN; none for any other
abbrev pub group_term : List BoundPath → BoundTerm → Option GroupTerm
group_term keys (plain e) = option_map key (key_of keys e.expression)
group_term keys (rows_counted None) = Some count_rows
group_term keys (rows_counted (Some w)) = None
group_term keys (aggregated a e None) = Some (aggregate a e.expression)
group_term keys (aggregated a e (Some w)) = None

-- an item of an aggregate query that has no term there
abbrev pub grouping_faults : List BoundPath → BoundItem → List BindFault
grouping_faults keys i = if is_some (group_term keys i.term) then [] else fault_at i.place not_grouped

-- ---- names of one object

-- of two chains the one with more repeated fields, the first where they have as many
abbrev pub deeper_chain : List Step → List Step → List Step
deeper_chain p q = if nat_lt (max_repetition p) (max_repetition q) then q else p

-- the chain with the most repeated fields, the first of several such, also where the paths aren't related
abbrev pub deepest_chain : List (List Step) → List Step
deepest_chain [] = []
deepest_chain (p ∷ ps) = deeper_chain (chain_end p) (deepest_chain ps)

abbrev pub within_chain : Option BoundWithin → List Step
within_chain None = []
within_chain (Some w) = chain_end w.node

-- the chain of the object in which an item of a record query stands
abbrev pub item_chain : BoundTerm → List Step
item_chain (plain e) = deepest_chain (paths_of e.expression)
item_chain (rows_counted w) = within_chain w
item_chain (aggregated a e w) = within_chain w

-- the items of an aggregate query stand in one object
abbrev pub object_of : Bool → BoundItem → List Step
object_of is_record_query i = if is_record_query then item_chain i.term else []

-- the levels next inside that at a path
abbrev pub levels_inside : List Step → Levels → Levels
levels_inside p no_levels = no_levels
levels_inside p (deeper names q below others) = if same_path p q then below else append_levels (levels_inside p below) (levels_inside p others)

abbrev pub next_levels : List Step → Levels → Levels
next_levels [] ls = ls
next_levels (s ∷ p) ls = levels_inside (s ∷ p) ls

-- the name of the list, among those of these levels, that leads to the level at a path
abbrev pub list_name : List Step → Levels → Option (List ℕ)
list_name p no_levels = None
list_name p (deeper names q below others) = if begins_with q p then Some (join_with_byte 46 names) else list_name p others

-- the name of the list that leads from the object at a level to an item of another level, if one does
abbrev pub list_between : Levels → List Step → List Step → Option (List ℕ)
list_between ls p q = if same_path p q then None else list_name q (next_levels p ls)

abbrev pub is_named : List ℕ → Option (List ℕ) → Bool
is_named name None = false
is_named name (Some other) = bytes_eq name other

-- whether two items of one object have one name
abbrev pub has_name_of : Bool → BoundItem → BoundItem → Bool
has_name_of b i other = same_path (object_of b i) (object_of b other) && bytes_eq i.name other.name

-- whether an item has the name of a list of its object that leads to another item
abbrev pub has_name_of_list : Levels → Bool → BoundItem → BoundItem → Bool
has_name_of_list ls b i other = is_named i.name (list_between ls (object_of b i) (object_of b other))

-- an item with the name of an earlier one of its object, or of a list of its object that leads to any item
abbrev pub name_faults : Levels → Bool → List BoundItem → List BoundItem → BoundItem → List BindFault
name_faults ls b all earlier i =
    if list_any (has_name_of b i) earlier || list_any (has_name_of_list ls b i) all then fault_at i.place duplicate_name else []

-- the items whose names their objects have already
abbrev pub duplicates_behind : Levels → Bool → List BoundItem → List BoundItem → List BoundItem → List BindFault
duplicates_behind ls b all earlier [] = []
duplicates_behind ls b all earlier (i ∷ is) = name_faults ls b all earlier i ++ duplicates_behind ls b all (i ∷ earlier) is

abbrev pub duplicate_faults : Levels → Bool → List BoundItem → List BindFault
duplicate_faults ls b items = duplicates_behind ls b items [] items

-- ---- all faults, and the first

-- the name behind FROM is to be the message's
abbrev pub table_faults : List ℕ → NameSyntax → List BindFault
table_faults name t = if bytes_eq t.name name then [] else fault_at t.place unknown_table

-- of paths and operators
abbrev pub part_faults : BoundParts → List BindFault
part_faults b = faults_in b.condition ++ flat_map faults_in b.items ++ flat_map faults_in b.keys

-- among the paths of the condition, of one expression item, of the keys, or of the keys followed by one aggregate's argument
abbrev pub unrelated_faults : BoundParts → List BindFault
unrelated_faults b = where_passed (λ c. unrelated_among (paths_of_condition c)) b.condition
    ++ flat_map (λ (i : BoundItem). unrelated_in_term (all_passed b.keys) i.term) (passing b.items)
    ++ flat_map (unrelated_behind (all_passed b.keys)) b.arguments
    ++ where_passed unrelated_among (all_passed b.keys)

-- of items by themselves
abbrev pub item_faults : BoundParts → List BindFault
item_faults b = flat_map (λ (i : BoundItem). within_faults i.term) (passing b.items)
    ++ (if b.is_record_query then [] else flat_map (grouping_faults (passing b.keys)) (passing b.items))

-- the faults of all rules
abbrev pub query_faults : Schema → QuerySyntax → BoundParts → List BindFault
query_faults s q b = table_faults s.name q.table ++ part_faults b ++ unrelated_faults b ++ item_faults b
    ++ duplicate_faults (levels_of s.fields) b.is_record_query (passing b.items)

-- a problem's place in the order in which problems at one place are told
abbrev pub rank : BindProblem → ℕ
rank unknown_table = 0
rank unknown_field = 1
rank not_a_leaf = 2
rank type_mismatch = 3
rank unrelated = 4
rank bad_within = 5
rank not_grouped = 6
rank duplicate_name = 7

-- whether a fault comes before another: by place, and at one place by rank
abbrev pub is_before : BindFault → BindFault → Bool
is_before f g = nat_lt f.place g.place || ((f.place == g.place) && nat_lt (rank f.problem) (rank g.problem))

-- a fault or the first of those behind it
abbrev pub first_of : BindFault → Option BindFault → BindFault
first_of f None = f
first_of f (Some g) = if is_before g f then g else f

-- the fault at the lowest place, at one place the first in order
abbrev pub first_fault : List BindFault → Option BindFault
first_fault [] = None
first_fault (f ∷ fs) = Some (first_of f (first_fault fs))

-- ---- the bound query

-- the term of a record query: an expression, or an aggregate with WITHIN
abbrev pub record_term : BoundTerm → Option RecordTerm
record_term (plain e) = Some (expression e.expression)
record_term (rows_counted w) = None
record_term (aggregated a e w) = option_map (λ (v : BoundWithin). within a e.expression v.node) w

abbrev pub record_item : BoundItem → Option RecordItem
record_item i = option_map (λ t. record { name = i.name; term = t }) (record_term i.term)

abbrev pub group_item : List BoundPath → BoundItem → Option GroupItem
group_item keys i = option_map (λ t. record { name = i.name; term = t }) (group_term keys i.term)

abbrev pub selection_of : BoundParts → Selection
selection_of b = if b.is_record_query then objects (filter_map record_item (passing b.items))
    else groups (map (λ (k : BoundPath). k.leaf.path) (passing b.keys)) (filter_map (group_item (passing b.keys)) (passing b.items))

-- the condition and what is selected, of parts that pass
abbrev pub condition_of : Checked (Option BoundExpression) → Option Expression
condition_of (passes c) = option_map (λ (e : BoundExpression). e.expression) c
condition_of (fails e es) = None

abbrev pub query_of : BoundParts → Query
query_of b = record { condition = condition_of b.condition; selection = selection_of b }

abbrev pub unless_fault : {A : Type 0} → Option BindFault → A → Result A BindFault
unless_fault None a = Ok a
unless_fault (Some f) a = Err f

-- the query of a syntax tree over a schema, or the first fault
unfoldable pub bind : Schema → QuerySyntax → Result Query BindFault
bind s q = let b : BoundParts = bind_parts s.fields q in unless_fault (first_fault (query_faults s q b)) (query_of b)
