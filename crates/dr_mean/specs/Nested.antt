-- Objects whose lists lie within one another, and whose aggregates lie within their objects.
use Rattle.std.specs.Prelude.{ℕ, List, [], ◌∷◌, Bool, true, ◌&&◌, Option, Some, None}
use Rattle.std.specs.List.{slice_get}
use Rattle.dr_meaning.specs.Path.{Step, begins_with}
use Rattle.dr_meaning.specs.Expression.{expression_chain}
use Rattle.dr_meaning.specs.Query.{RecordTerm, expression, within, RecordItem}
use Rattle.dr_plan.specs.Objects.{ObjectTree, object_tree, ListTrees, no_lists, list_tree}

-- an aggregate within the instances of a level goes over rows below them
abbrev pub term_is_below : List Step → RecordTerm → Bool
term_is_below p (expression e) = true
term_is_below p (within a e node) = begins_with p (expression_chain e)

-- the same of an item, if there is one
abbrev pub item_is_below : List Step → Option RecordItem → Bool
item_is_below p None = true
item_is_below p (Some i) = term_is_below p i.term

-- and of the items at these places
abbrev pub items_are_below : List RecordItem → List Step → List ℕ → Bool
items_are_below items p [] = true
items_are_below items p (n ∷ ns) = item_is_below p (slice_get items n) && items_are_below items p ns

abbrev mutual
  -- at a level, each list is of a level below it, and so on
  pub is_nested : List RecordItem → List Step → ObjectTree → Bool
  is_nested items p (object_tree ns ls) = items_are_below items p ns && are_nested items p ls

  -- each of some lists
  pub are_nested : List RecordItem → List Step → ListTrees → Bool
  are_nested items p no_lists = true
  are_nested items p (list_tree name q o ls) = begins_with p q && is_nested items q o && are_nested items p ls
