-- The tree of a record query's objects makes the object of each record.
use Rattle.std.proofs.Common.{◌≡◌, ℕ, suc, ◌+◌, List, [], ◌∷◌, map, Bool, true, false, Some, refl, sym, ap, ap₂, ◌∙◌, arith}
use Rattle.std.specs.Prelude.{if◌then◌else◌}
use Rattle.std.specs.List.{slice_get, join_with_byte}
use Rattle.std.proofs.Math.Path.{fun_ext}
use Rattle.dr_meaning.specs.Path.{Step, same_path}
use Rattle.dr_meaning.specs.Record.{Node}
use Rattle.dr_meaning.specs.Query.{RecordItem, Object, cell, list, objects_of, Levels, no_levels, deeper, levels_of, term_chain, term_value, with_cells, with_list, leads_to_items, instances_of, object_lists}
use Rattle.dr_plan.specs.Objects.{ObjectTree, ListTrees, object_tree, places_at, with_list_tree, list_trees, cell_of, tree_cells, tree_object, tree_lists, TreeMakesObject}

-- items from the place n on are those at their places among all
abbrev From : List RecordItem → ℕ → List RecordItem → Type 0
From items n is = (k : ℕ) (i : RecordItem) → slice_get is k ≡ Some i → slice_get items (n + k) ≡ Some i

at_zero : (n : ℕ) → n + 0 ≡ n
at_zero n = omega arith

one_later : (n k : ℕ) → suc n + k ≡ n + suc k
one_later n k = omega arith

cells_at : (items : List RecordItem) (n : ℕ) (is : List RecordItem) (p : List Step) (row : Node) (rest : Object) → From items n is → tree_cells items (places_at n is p) row rest ≡ with_cells is p row rest
cells_at items n [] p row rest h = refl
cells_at items n (i ∷ is) p row rest h = by_level (same_path p (term_chain i.term)) (cells_at items (suc n) is p row rest (λ k j e. ap (slice_get items) (one_later n k) ∙ h (suc k) j e))
  where
    here : slice_get items n ≡ Some i
    here = ap (slice_get items) (sym (at_zero n)) ∙ h 0 i refl

    by_level : (b : Bool) → tree_cells items (places_at (suc n) is p) row rest ≡ with_cells is p row rest
        → tree_cells items (if b then n ∷ places_at (suc n) is p else places_at (suc n) is p) row rest ≡ (if b then cell i.name (term_value i.term row) (with_cells is p row rest) else with_cells is p row rest)
    by_level true e = ap (λ o. cell_of o row (tree_cells items (places_at (suc n) is p) row rest)) here ∙ ap (cell i.name (term_value i.term row)) e
    by_level false e = e

all_cells : (items : List RecordItem) (p : List Step) (row : Node) (rest : Object) → tree_cells items (places_at 0 items p) row rest ≡ with_cells items p row rest
all_cells items p row rest = cells_at items 0 items p row rest (λ k i e. ap (slice_get items) (no_shift k) ∙ e)
  where
    no_shift : (k : ℕ) → 0 + k ≡ k
    no_shift k = omega arith

list_if : (items : List RecordItem) (b : Bool) (names : List (List ℕ)) (p : List Step) (o : ObjectTree) (ls : ListTrees) (row : Node) (f : Node → Object) (rest : Object) → ((m : Node) → tree_object items o m ≡ f m) → tree_lists items ls row ≡ rest
    → tree_lists items (with_list_tree b (join_with_byte 46 names) p o ls) row ≡ with_list b names (objects_of (map f (instances_of p row))) rest
list_if items true names p o ls row f rest h e = ap₂ (list (join_with_byte 46 names)) (ap (λ g. objects_of (map g (instances_of p row))) (fun_ext h)) e
list_if items false names p o ls row f rest h e = e

lists_make : (items : List RecordItem) (levels : Levels) (row : Node) → tree_lists items (list_trees items levels) row ≡ object_lists items levels row
lists_make items no_levels row = refl
lists_make items (deeper names p below others) row =
    list_if items (leads_to_items items p) names p (object_tree (places_at 0 items p) (list_trees items below)) (list_trees items others) row
    (λ m. with_cells items p m (object_lists items below m)) (object_lists items others row)
    (λ m. all_cells items p m (tree_lists items (list_trees items below) m) ∙ ap (with_cells items p m) (lists_make items below m)) (lists_make items others row)

pub tree_makes_object : TreeMakesObject
tree_makes_object fs items n = all_cells items [] n (tree_lists items (list_trees items (levels_of fs)) n) ∙ ap (with_cells items [] n) (lists_make items (levels_of fs) n)
