-- The trees of objects over levels with joined names, by the levels of items.
use Rattle.std.specs.Prelude.{ℕ, suc, List, [], ◌∷◌, map, Bool, if◌then◌else◌}
use Rattle.std.specs.List.{list_any}
use Rattle.dr_meaning.specs.Path.{Step, begins_with, same_path}
use Rattle.dr_plan.specs.Objects.{ObjectTree, object_tree, ListTrees, no_lists, list_tree, with_list_tree, SeenList, lists_of, list_step, object_step}
use Rattle.dr_plan.specs.declared.objects.ListPlan.{ListPlan, fold-ListPlan}
use Rattle.dr_planning.specs.NamedLevels.{NamedLevels, no_named, named}

-- the places of the items that belong to the level p, where the first has the place n
abbrev pub numbers_at : ℕ → List (List Step) → List Step → List ℕ
numbers_at n [] p = []
numbers_at n (q ∷ qs) p = if same_path p q then n ∷ numbers_at (suc n) qs p else numbers_at (suc n) qs p

-- whether the level p leads to items
abbrev pub leads_to : List (List Step) → List Step → Bool
leads_to qs p = list_any (begins_with p) qs

-- a list for each level that leads to items
abbrev pub named_trees : List (List Step) → NamedLevels → ListTrees
named_trees qs no_named = no_lists
named_trees qs (named n p below others) = with_list_tree (leads_to qs p) n p (object_tree (numbers_at 0 qs p) (named_trees qs below)) (named_trees qs others)

abbrev pub named_object : List (List Step) → NamedLevels → ObjectTree
named_object qs ls = object_tree (numbers_at 0 qs []) (named_trees qs ls)

-- ---- the view of the lists of a plan

abbrev pub append_lists : ListTrees → ListTrees → ListTrees
append_lists no_lists ls = ls
append_lists (list_tree n p o ks) ls = list_tree n p o (append_lists ks ls)

abbrev pub list_view : ListPlan → SeenList
list_view = fold-ListPlan SeenList ObjectTree list_step object_step

abbrev pub lists_view : List ListPlan → ListTrees
lists_view ls = lists_of (map list_view ls)
