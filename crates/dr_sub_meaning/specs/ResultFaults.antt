-- Which queries have a result schema: record queries whose names, a dot written as `_`, make one; or the first item
-- that doesn't.
use Rattle.std.specs.Prelude.{ℕ, suc, List, [], ◌∷◌, ◌++◌, length, Bool, false, not, ◌&&◌, ◌||◌, nat_lt, if◌then◌else◌, bytes_eq, Option, Some, None, Result, Ok, Err, filter}
use Rattle.std.specs.List.{list_any}
use Rattle.dr_meaning.specs.Schema.{Fields, Schema, longest_name, greatest_depth}
use Rattle.dr_meaning.specs.Path.{Step, same_path, begins_with}
use Rattle.dr_meaning.specs.Query.{RecordItem, Selection, objects, groups, Query, Levels, no_levels, deeper, levels_of, term_chain}
use Rattle.dr_sub_meaning.specs.ResultRecords.{field_name, list_field_name, result_fields, result_message}

-- why a query has no result schema: it is an aggregate query; the item of this number has a name that no field may have
-- there
pub data SubFault : Type 0 where
  not_records : SubFault
  result_name : ℕ → SubFault

-- a name in the object of the instances at a path; of a list also the path of the level to which it leads
pub record ResultName : Type 0 where
  pub inside : List Step
  pub name : List ℕ
  pub leads_to : Option (List Step)

-- ---- the names that an item needs

-- the lists that lead to a chain's end from the object at a path, outermost first
abbrev pub lists_to : List Step → Levels → List Step → List ResultName
lists_to at no_levels q = []
lists_to at (deeper names p below beside) q =
    if begins_with p q then record { inside = at; name = list_field_name names; leads_to = Some p } ∷ lists_to p below q
    else lists_to at beside q

abbrev pub lists_of_item : Levels → RecordItem → List ResultName
lists_of_item ls i = lists_to [] ls (term_chain i.term)

abbrev pub own_name : RecordItem → ResultName
own_name i = record { inside = term_chain i.term; name = field_name i.name; leads_to = None }

-- an item's name, and those of the lists that lead to it
abbrev pub names_of_item : Levels → RecordItem → List ResultName
names_of_item ls i = own_name i ∷ lists_of_item ls i

-- the same list
abbrev pub is_same_list : Option (List Step) → Option (List Step) → Bool
is_same_list None q = false
is_same_list (Some p) None = false
is_same_list (Some p) (Some q) = same_path p q

abbrev pub is_list_among : List ResultName → ResultName → Bool
is_list_among earlier n = list_any (λ (m : ResultName). is_same_list n.leads_to m.leads_to) earlier

-- those of them that no earlier item has brought in
abbrev pub new_names : List ResultName → Levels → RecordItem → List ResultName
new_names earlier ls i = filter (λ (n : ResultName). not (is_list_among earlier n)) (names_of_item ls i)

-- ---- the faults

abbrev pub is_long : ResultName → Bool
is_long n = nat_lt longest_name (length n.name)

abbrev pub is_taken : List ResultName → ResultName → Bool
is_taken earlier n = list_any (λ (m : ResultName). same_path n.inside m.inside && bytes_eq n.name m.name) earlier

-- a name of an item is too long, or another field's; or the item lies too deep
abbrev pub has_name_fault : List ResultName → Levels → RecordItem → Bool
has_name_fault earlier ls i = list_any is_long (new_names earlier ls i) || list_any (is_taken earlier) (new_names earlier ls i)
    || nat_lt greatest_depth (suc (length (lists_of_item ls i)))

-- the first of these items, of which the first has the number n, that has a fault behind earlier names
abbrev pub first_name_fault : Levels → List ResultName → ℕ → List RecordItem → Option ℕ
first_name_fault ls earlier n [] = None
first_name_fault ls earlier n (i ∷ is) =
    if has_name_fault earlier ls i then Some n else first_name_fault ls (earlier ++ names_of_item ls i) (suc n) is

abbrev pub fault_of_item : Option ℕ → Option SubFault
fault_of_item None = None
fault_of_item (Some i) = Some (result_name i)

abbrev pub fault_of_selection : Levels → Selection → Option SubFault
fault_of_selection ls (groups keys items) = Some not_records
fault_of_selection ls (objects items) = fault_of_item (first_name_fault ls [] 0 items)

abbrev pub unless_sub_fault : {A : Type 0} → Option SubFault → A → Result A SubFault
unless_sub_fault None a = Ok a
unless_sub_fault (Some f) a = Err f

-- the schema of the records that a query gives, or why there is none
unfoldable pub result_schema : Fields → Query → Result Schema SubFault
result_schema fs q = unless_sub_fault (fault_of_selection (levels_of fs) q.selection) (record { name = result_message; fields = result_fields fs q })
