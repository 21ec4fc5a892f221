-- Assembling in schema order: of the columns of records their projections are restored.
use Rattle.std.proofs.Common.{◌≡◌, ℕ, List, [], ◌∷◌, map, length, get_or, Bool, true, false, ◌&&◌, inl, inr, Some, None, refl, sym, ap, ap₂, ◌∙◌, subst}
use Rattle.std.specs.Prelude.{if◌then◌else◌}
use Rattle.std.specs.List.{list_all}
use Rattle.std.proofs.lemmas.Bool.{and_parts}
use Rattle.dr_meaning.specs.Schema.{Fields, group}
use Rattle.dr_meaning.specs.Path.{Step, is_leaf_path}
use Rattle.dr_meaning.specs.Record.{Node, project}
use Rattle.dr_meaning.specs.Column.{Triplet, column}
use Rattle.dr_meaning.specs.Automaton.{schema_order}
use Rattle.dr_meaning.proofs.OrderLemmas.{orders_have_each_once}
use Rattle.dr_assemble.specs.Restoring.{Strip, strip, strips, strips_at, has_rows, assembled, restored_each, assembled_records, rests, columns_of}
use Rattle.dr_assemble.proofs.ByPaths.{restored_records}
use Rattle.dr_assemble.proofs.OrderedLemmas.{records_agree}
use Rattle.dr_assemble.proofs.SelectionOrder.{Among, Within, path_at, ordered_in_schema_order, projects_same, order_within, within_order, columns_of_order, columns_from_order}
use Rattle.dr_assemble.proofs.AssemblyLemmas.{columns_restored}
use Rattle.dr_assemble.specs.Ordered.{OrderedIn}
use Rattle.dr_walk.specs.Walking.{HasColumns}

-- the paths in schema order, and their columns
abbrev pub paths_in_order : Fields → List (List Step) → List (List Step)
paths_in_order fs F = map (path_at F) (schema_order fs F)

abbrev pub columns_in_order : Fields → List (List Step) → List (List Triplet) → List (List Triplet)
columns_in_order fs F C = map (λ i. get_or C i []) (schema_order fs F)

strips_at-is : (js : List ℕ) (F : List (List Step)) (C : List (List Triplet)) → strips_at js F C ≡ strips (map (path_at F) js) (map (λ i. get_or C i []) js)
strips_at-is [] F C = refl
strips_at-is (j ∷ js) F C = ap (λ (S : List Strip). strip (get_or F j []) (get_or C j []) ∷ S) (strips_at-is js F C)

rests_at : (js : List ℕ) (F : List (List Step)) (C : List (List Triplet)) → rests (strips_at js F C) ≡ map (path_at F) js
rests_at [] F C = refl
rests_at (j ∷ js) F C = ap (λ (G : List (List Step)). get_or F j [] ∷ G) (rests_at js F C)

among_all : (f : List Step → Bool) (p : List Step) (F : List (List Step)) → Among p F → list_all f F ≡ true → f p ≡ true
among_all f p [] h e = absurd h
among_all f p (q ∷ F) (inl h) e = ap f (sym h) ∙ (and_parts (f q) (list_all f F) e).0
among_all f p (q ∷ F) (inr h) e = among_all f p F h (and_parts (f q) (list_all f F) e).1

all_among : (f : List Step → Bool) (F G : List (List Step)) → Within F G → list_all f G ≡ true → list_all f F ≡ true
all_among f [] G h e = refl
all_among f (p ∷ F) G h e = ap₂ (λ a b. a && b) (among_all f p G (h p (inl refl)) e) (all_among f F G (λ (q : List Step) (a : Among q F). h q (inr a)) e)

columns_at : (js : List ℕ) (F : List (List Step)) (C : List (List Triplet)) → columns_of (strips_at js F C) ≡ map (λ i. get_or C i []) js
columns_at [] F C = refl
columns_at (j ∷ js) F C = ap (λ (D : List (List Triplet)). get_or C j [] ∷ D) (columns_at js F C)

-- what is assembled in schema order is what is restored of the columns in that order
in_order : (fs : Fields) (F : List (List Step)) (C : List (List Triplet)) (rows : ℕ)
    → assembled_records fs rows (strips_at (schema_order fs F) F C) ≡ restored_records fs rows (strips (paths_in_order fs F) (columns_in_order fs F C))
in_order fs F C rows =
    records_agree fs rows (strips_at (schema_order fs F) F C) (subst (OrderedIn (group fs)) (sym (rests_at (schema_order fs F) F C)) (ordered_in_schema_order fs F))
    ∙ ap (restored_records fs rows) (strips_at-is (schema_order fs F) F C)

each_restored : (fs : Fields) (rows : ℕ) (S : List Strip) (P : List Node) → assembled_records fs rows S ≡ Some P → restored_each (assembled fs 0 0 0) 0 rows S ≡ Some P
each_restored fs rows S P e = by_rows (has_rows rows S) e
  where
    by_rows : (b : Bool) → (if b then restored_each (assembled fs 0 0 0) 0 rows S else None) ≡ Some P → restored_each (assembled fs 0 0 0) 0 rows S ≡ Some P
    by_rows true h = h
    by_rows false h = absurd (cc)

module _ (fs : Fields) (F : List (List Step)) (C : List (List Triplet)) (rows : ℕ) (leaves : list_all (is_leaf_path fs) F ≡ true) where
  all_there : Within F (paths_in_order fs F)
  all_there = within_order orders_have_each_once fs F leaves

  same_projections : (R : List Node) → map (project (paths_in_order fs F)) R ≡ map (project F) R
  same_projections R = projects_same (paths_in_order fs F) F R (order_within fs F) all_there

  leaves_in_order : list_all (is_leaf_path fs) (paths_in_order fs F) ≡ true
  leaves_in_order = all_among (is_leaf_path fs) (paths_in_order fs F) F (order_within fs F) leaves

  has_in_order : (R : List Node) → HasColumns fs F C rows R → HasColumns fs (paths_in_order fs F) (columns_in_order fs F C) rows R
  has_in_order R h = (h.0, h.1, columns_of_order (λ (p : List Step). column p R) fs F C h.2)

  -- what is assembled of the columns of records is their projection
  pub columns_assembled : (R : List Node) → HasColumns fs F C rows R → assembled_records fs rows (strips_at (schema_order fs F) F C) ≡ Some (map (project F) R)
  columns_assembled R h =
      in_order fs F C rows ∙ columns_restored fs (paths_in_order fs F) (columns_in_order fs F C) rows R leaves_in_order (has_in_order R h)
      ∙ ap Some (same_projections R)

  -- records that have the columns in schema order have all columns
  pub has_from_order : length C ≡ length F → (R : List Node) → HasColumns fs (rests (strips_at (schema_order fs F) F C)) (columns_of (strips_at (schema_order fs F) F C)) rows R → HasColumns fs F C rows R
  has_from_order e R h = (
    h.0,
    h.1,
    columns_from_order (λ (p : List Step). column p R) fs F C leaves orders_have_each_once e
        (ap (map (λ (p : List Step). column p R)) (sym (rests_at (schema_order fs F) F C)) ∙ (h.2 ∙ columns_at (schema_order fs F) F C)),
  )

  -- and the other way round
  pub has_by_order : (R : List Node) → HasColumns fs F C rows R → HasColumns fs (rests (strips_at (schema_order fs F) F C)) (columns_of (strips_at (schema_order fs F) F C)) rows R
  has_by_order R h =
      let x = has_in_order R h in
      (x.0, x.1, ap (map (λ (p : List Step). column p R)) (rests_at (schema_order fs F) F C) ∙ (x.2 ∙ sym (columns_at (schema_order fs F) F C)))

  pub strips_are_leaves : list_all (is_leaf_path fs) (rests (strips_at (schema_order fs F) F C)) ≡ true
  strips_are_leaves = ap (list_all (is_leaf_path fs)) (rests_at (schema_order fs F) F C) ∙ leaves_in_order

  pub strips_are_ordered : OrderedIn (group fs) (rests (strips_at (schema_order fs F) F C))
  strips_are_ordered = subst (OrderedIn (group fs)) (sym (rests_at (schema_order fs F) F C)) (ordered_in_schema_order fs F)

  -- what is restored of the columns of records is their projection
  pub columns_restored_each : (R : List Node) → HasColumns fs F C rows R → restored_each (assembled fs 0 0 0) 0 rows (strips_at (schema_order fs F) F C) ≡ Some (map (project F) R)
  columns_restored_each R h = each_restored fs rows (strips_at (schema_order fs F) F C) (map (project F) R) (columns_assembled R h)
