-- The objects of a record query as a tree, made once for all records.
use Rattle.std.specs.Prelude.{◌≡◌, ℕ, suc, List, [], ◌∷◌, map, Bool, true, false, if◌then◌else◌, string_bytes, Option, Some, None}
use Rattle.std.specs.List.{slice_get, join_with_byte}
use Rattle.dr_meaning.specs.Schema.{Fields}
use Rattle.dr_meaning.specs.Path.{Step as MeantStep, same_path}
use Rattle.dr_meaning.specs.Record.{Node}
use Rattle.dr_meaning.specs.Query.{RecordItem, Object, no_entries, cell, list, objects_of, Levels, no_levels, deeper, levels_of, term_chain, term_value}
use Rattle.dr_meaning.specs.Query.{leads_to_items, instances_of, record_object}
use Rattle.dr_nested.specs.PathView.{step_view}
use Rattle.dr_plan.specs.declared.objects.ObjectPlan.{ObjectPlan, fold-ObjectPlan}
use Rattle.dr_plan.specs.declared.objects.ListPlan.TheOpen.{ListPlan-F, ObjectPlan-F}

mutual
  -- an object: the places of the items in it, in SELECT order, and its lists
  pub data ObjectTree : Type 0 where
    object_tree : List ℕ → ListTrees → ObjectTree

  -- lists, each by its name, the path of its level, and the object of an instance
  pub data ListTrees : Type 0 where
    no_lists : ListTrees
    list_tree : List ℕ → List MeantStep → ObjectTree → ListTrees → ListTrees

-- ---- the tree of a query

-- the places of the items that belong to a level, where the first has the place n
abbrev pub places_at : ℕ → List RecordItem → List MeantStep → List ℕ
places_at n [] p = []
places_at n (i ∷ is) p = if same_path p (term_chain i.term) then n ∷ places_at (suc n) is p else places_at (suc n) is p

abbrev pub with_list_tree : Bool → List ℕ → List MeantStep → ObjectTree → ListTrees → ListTrees
with_list_tree true name p o ls = list_tree name p o ls
with_list_tree false name p o ls = ls

-- a list for each level that leads to items
abbrev pub list_trees : List RecordItem → Levels → ListTrees
list_trees items no_levels = no_lists
list_trees items (deeper names p below others) = with_list_tree (leads_to_items items p) (join_with_byte 46 names) p
    (object_tree (places_at 0 items p) (list_trees items below)) (list_trees items others)

abbrev pub object_tree_of : Fields → List RecordItem → ObjectTree
object_tree_of fs items = object_tree (places_at 0 items []) (list_trees items (levels_of fs))

-- ---- the object that a tree makes of a row

abbrev pub cell_of : Option RecordItem → Node → Object → Object
cell_of None row rest = rest
cell_of (Some i) row rest = cell i.name (term_value i.term row) rest

abbrev pub tree_cells : List RecordItem → List ℕ → Node → Object → Object
tree_cells items [] row rest = rest
tree_cells items (n ∷ ns) row rest = cell_of (slice_get items n) row (tree_cells items ns row rest)

abbrev mutual
  pub tree_object : List RecordItem → ObjectTree → Node → Object
  tree_object items (object_tree ns ls) row = tree_cells items ns row (tree_lists items ls row)

  pub tree_lists : List RecordItem → ListTrees → Node → Object
  tree_lists items no_lists row = no_entries
  tree_lists items (list_tree name p o ls) row = list name (objects_of (map (tree_object items o) (instances_of p row))) (tree_lists items ls row)

-- ---- the view of an object's plan

-- a list whose object has been seen
pub record SeenList : Type 0 where
  pub name : List ℕ
  pub level : List MeantStep
  pub object : ObjectTree

abbrev pub lists_of : List SeenList → ListTrees
lists_of [] = no_lists
lists_of (l ∷ ls) = list_tree l.name l.level l.object (lists_of ls)

abbrev pub object_step : ObjectPlan-F SeenList ObjectTree → ObjectTree
object_step o = object_tree o.items.items (lists_of o.lists.items)

abbrev pub list_step : ListPlan-F SeenList ObjectTree → SeenList
list_step l = record { name = string_bytes l.name; level = map step_view l.level.items; object = l.object }

abbrev pub object_view : ObjectPlan → ObjectTree
object_view = fold-ObjectPlan SeenList ObjectTree list_step object_step

-- ---- the law

-- the tree of a query makes the object of a record
abbrev pub TreeMakesObject : Type 0
TreeMakesObject = (fs : Fields) (items : List RecordItem) (n : Node) → tree_object items (object_tree_of fs items) n ≡ record_object items (levels_of fs) n
