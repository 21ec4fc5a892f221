-- The leaves that a query uses: it means the same on records projected to these alone.
use Rattle.std.specs.Prelude.{List, ◌++◌, map, filter}
use Rattle.std.specs.List.{list_any, filter_map, flat_map, slice_get}
use Rattle.dr_meaning.specs.Schema.{Fields}
use Rattle.dr_meaning.specs.Path.{Step, Leaf, same_path, leaves}
use Rattle.dr_meaning.specs.Expression.{paths_of}
use Rattle.dr_meaning.specs.Query.{RecordTerm, expression, within, RecordItem, GroupItem, Selection, objects, groups, Query}
use Rattle.dr_meaning.specs.MeaningLaws.{condition_paths, group_term_paths}
use Rattle.dr_meaning.specs.Automaton.{reading_order}

-- the paths whose values an item uses; the node of WITHIN has no value
abbrev pub value_paths : RecordTerm → List (List Step)
value_paths (expression e) = paths_of e
value_paths (within a e node) = paths_of e

abbrev pub selection_values : Selection → List (List Step)
selection_values (objects items) = flat_map (λ (i : RecordItem). value_paths i.term) items
selection_values (groups keys items) = keys ++ flat_map (λ (i : GroupItem). group_term_paths i.term) items

-- the paths whose values a query uses: in its condition, its keys and its items
abbrev pub used_paths : Query → List (List Step)
used_paths q = condition_paths q.condition ++ selection_values q.selection

-- leaves in reading order
abbrev pub in_reading_order : Fields → List Leaf → List Leaf
in_reading_order fs ls = filter_map (slice_get ls) (reading_order fs (map (λ (l : Leaf). l.path) ls))

-- the leaves of a schema that a query uses, each once, in reading order
unfoldable pub query_leaves : Fields → Query → List Leaf
query_leaves fs q = in_reading_order fs (filter (λ (l : Leaf). list_any (same_path l.path) (used_paths q)) (leaves fs))
