-- The names that the items of a result need in its schema, by the plan of its objects; and the first item at fault.
use Rattle.std.specs.Prelude.{ℕ, suc, List, [], ◌∷◌, ◌++◌, map, length, Bool, not, ◌&&◌, ◌||◌, nat_lt, bytes_eq, if◌then◌else◌, Option, Some, None, option_map, string_bytes}
use Rattle.std.specs.List.{list_any}
use Rattle.dr_meaning.specs.Schema.{greatest_depth}
use Rattle.dr_meaning.specs.Path.{Step, begins_with, same_path}
use Rattle.dr_meaning.specs.Query.{RecordItem, term_chain}
use Rattle.dr_nested.specs.PathView.{step_view, lent_path}
use Rattle.dr_plan.specs.Objects.{object_tree, ListTrees, no_lists, list_tree}
use Rattle.dr_sub_meaning.specs.ResultRecords.{field_name}
use Rattle.dr_sub_meaning.specs.ResultFaults as meant
use Rattle.dr_sub.specs.declared.names.ResultName.{ResultName}

-- ---- names

abbrev pub name_view : ResultName → meant.ResultName
name_view n = record { inside = map step_view n.inside.now; name = string_bytes n.name; leads_to = option_map lent_path n.leads_to }

abbrev pub names_view : List ResultName → List meant.ResultName
names_view ns = map name_view ns

-- the lists of a plan that lead to a chain's end from the object at a path, outermost first
abbrev pub lists_to : List Step → ListTrees → List Step → List meant.ResultName
lists_to at no_lists q = []
lists_to at (list_tree name p (object_tree ns inner) beside) q =
    if begins_with p q then record { inside = at; name = field_name name; leads_to = Some p } ∷ lists_to p inner q
    else lists_to at beside q

-- an item's name, and those of the lists that lead to it
abbrev pub names_of_item : ListTrees → RecordItem → List meant.ResultName
names_of_item lists i = meant.own_name i ∷ lists_to [] lists (term_chain i.term)

-- ---- faults

-- the same name in the same object
abbrev pub is_same : meant.ResultName → meant.ResultName → Bool
is_same n m = same_path n.inside m.inside && bytes_eq n.name m.name

-- a name that an earlier item hasn't brought in is too long, or another field's
abbrev pub is_at_fault : List meant.ResultName → meant.ResultName → Bool
is_at_fault earlier n = not (meant.is_list_among earlier n) && (meant.is_long n || meant.is_taken earlier n)

-- these are the names of an item that lies too deep, or one of them is at fault
abbrev pub have_fault : List meant.ResultName → List meant.ResultName → Bool
have_fault earlier ns = nat_lt greatest_depth (length ns) || list_any (is_at_fault earlier) ns

-- the first of these items, of which the first has the number n, that has a fault behind earlier names
abbrev pub first_fault : ListTrees → List meant.ResultName → ℕ → List RecordItem → Option ℕ
first_fault lists earlier n [] = None
first_fault lists earlier n (i ∷ is) =
    if have_fault earlier (names_of_item lists i) then Some n else first_fault lists (earlier ++ names_of_item lists i) (suc n) is
